-- What recording a successor leaves. Assumes nothing.
use Rattle.std.proofs.Common.{◌≡◌, ℕ, ◌+◌, ◌<◌, ◌≤◌, Bool, true, false, ltb, List, length, get_or, set, MatchBool, Option, sym, refl, ◌∙◌, subst, arith, ltb-false, ltb-true, le-ltb, lt-ltb}
use Rattle.std.proofs.lemmas.Option.{slice_get-get_or}
use Rattle.model.specs.Strips.{State, Problem, May, step}
use Rattle.strips.specs.declared.state.State.{State as Words}
use Rattle.strips.specs.Standing.{standing}
use Rattle.queue.specs.declared.key.Pair.{Pair}
use Rattle.rows.specs.declared.row.Row.{Row}
use Rattle.rows.specs.Rows.{blank}
use Rattle.rows.specs.Lookups.{Missing, Numbers}
use Rattle.search_law.specs.Views.{view, key_of}
use Rattle.search_law.specs.Boards.{board, enqueued, better_row, Turning, Moves, Shortened, Added}
use Rattle.search_law.proofs.Writes.{moves_refl}
use Rattle.search_law.proofs.Opens.{same_turn, better_turn, better_moves, new_turn, new_moves}

-- a read within the rows is the same whatever the default
pub any : (rows : List Row) (i : ℕ) (x : Row) → i < length rows → get_or rows i x ≡ get_or rows i blank
any rows i x lt = let h = slice_get-get_or rows i x lt in let k = slice_get-get_or rows i blank lt in cc

module _ (rows : List Row) (t : List (Option Pair)) (i a j : ℕ) where
  pub shortened_yes : (after : List Row) (u : List (Option Pair)) → (get_or rows i blank).steps + 1 < (get_or rows j blank).steps → after ≡ set rows j (better_row rows i a j) → u ≡ enqueued t j (key_of ((get_or rows i blank).steps + 1) (get_or rows j blank).estimate) → Shortened rows t i a j after u
  shortened_yes after u less e f =
      let P : Bool → Type 0 = λ b. MatchBool b ((after ≡ set rows j (better_row rows i a j)) × (u ≡ enqueued t j (key_of ((get_or rows i blank).steps + 1) (get_or rows j blank).estimate))) ((after ≡ rows) × (u ≡ t)) in
      subst P (sym (lt-ltb ((get_or rows i blank).steps + 1) (get_or rows j blank).steps less)) (e, f)

  pub shortened_no : (get_or rows j blank).steps ≤ (get_or rows i blank).steps + 1 → Shortened rows t i a j rows t
  shortened_no le =
      let P : Bool → Type 0 = λ b. MatchBool b ((rows ≡ set rows j (better_row rows i a j)) × (t ≡ enqueued t j (key_of ((get_or rows i blank).steps + 1) (get_or rows j blank).estimate))) ((rows ≡ rows) × (t ≡ t)) in
      subst P (sym (le-ltb ((get_or rows i blank).steps + 1) (get_or rows j blank).steps le)) (refl, refl)

module _ (p : Problem) (s : State) (v : State → ℕ) (A : Type 0) (rows : List Row) (t : List (Option Pair)) (used i a : ℕ) (m : Turning p s (board rows t used) i a) (may : May p a ((view rows used).row i).state) (next : Words) (is : standing next ≡ step p a ((view rows used).row i).state) where
  -- the successor had a row
  pub shortened : (j : ℕ) → j < used → ((view rows used).row j).state ≡ standing next → (after : List Row) (u : List (Option Pair)) → Shortened rows t i a j after u → Turning p s (board after u used) i (a + 1) × Moves p s v A (board rows t used) (board after u used)
  shortened j lt same after u how = go (ltb ((get_or rows i blank).steps + 1) (get_or rows j blank).steps) refl how where
    go : (b : Bool) → ltb ((get_or rows i blank).steps + 1) (get_or rows j blank).steps ≡ b → MatchBool b ((after ≡ set rows j (better_row rows i a j)) × (u ≡ enqueued t j (key_of ((get_or rows i blank).steps + 1) (get_or rows j blank).estimate))) ((after ≡ rows) × (u ≡ t)) → Turning p s (board after u used) i (a + 1) × Moves p s v A (board rows t used) (board after u used)
    go true e h =
        let less = ltb-true ((get_or rows i blank).steps + 1) (get_or rows j blank).steps e in
        let P : List Row → Type 0 = λ x. Turning p s (board x u used) i (a + 1) × Moves p s v A (board rows t used) (board x u used) in
        let Q : List (Option Pair) → Type 0 = λ y. Turning p s (board (set rows j (better_row rows i a j)) y used) i (a + 1) × Moves p s v A (board rows t used) (board (set rows j (better_row rows i a j)) y used) in
        subst P (sym h.0) (subst Q (sym h.1) (better_turn p s v A rows t used i a m may j lt (same ∙ is) less, better_moves p s v A rows t used i a m may j lt (same ∙ is) less))
    go false e h =
        let le = ltb-false ((get_or rows i blank).steps + 1) (get_or rows j blank).steps e in
        let P : List Row → Type 0 = λ x. Turning p s (board x u used) i (a + 1) × Moves p s v A (board rows t used) (board x u used) in
        let Q : List (Option Pair) → Type 0 = λ y. Turning p s (board rows y used) i (a + 1) × Moves p s v A (board rows t used) (board rows y used) in
        subst P (sym h.0) (subst Q (sym h.1) (same_turn p s v A rows t used i a m may j (standing next) is lt same le, moves_refl p s v A rows t used m.sized.tree.fits))

  -- it had none, and there was room
  pub added : (under : ℕ) → Missing rows used (standing next) under → used < length rows → (after : List Row) (u : List (Option Pair)) → Added v A i a under used next rows after t u → Turning p s (board after u (used + 1)) i (a + 1) × Moves p s v A (board rows t used) (board after u (used + 1))
  added under look lt after u h =
      let nums : Numbers rows under used = record { earlier = look.within; within = lt; small = omega (arith, m.sized.small) } in
      let w = h.hung.fitting nums in
      let tree = w.tree m.sized.tree look.seated in
      let Q : List (Option Pair) → Type 0 = λ y. Turning p s (board after y (used + 1)) i (a + 1) × Moves p s v A (board rows t used) (board after y (used + 1)) in
      subst Q (sym h.queue_is) (new_turn p s v A rows t used i a m may next h.figure is look.none lt under after w tree, new_moves p s v A rows t used i a m may next h.figure is look.none lt under after w tree h.right)
