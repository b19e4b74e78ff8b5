-- A row is written and queued. Assumes nothing.
use Rattle.std.proofs.Common.{◌≡◌, ℕ, ◌<◌, ◌≤◌, List, length, get_or, set, is_some, Some, None, Option, sym, refl, ap, ◌∙◌, subst, arith, length-set, get_or-set_other, get_or-set_same}
use mathlib.Core.Path.{fun_ext}
use Rattle.figure.specs.Ranks.{rank}
use Rattle.model.specs.Strips.{State, Problem}
use Rattle.queue.specs.declared.key.Pair.{Pair}
use Rattle.queue.specs.Queues.{at}
use Rattle.rows.specs.declared.row.Row.{Row}
use Rattle.rows.specs.Rows.{blank}
use Rattle.rows.specs.Lookups.{Alike}
use Rattle.search_theory.specs.Rows.{Shut, Told, Thrifty}
use Rattle.search_theory.specs.Turns.{Only}
use Rattle.search_theory.specs.Measure.{potential}
use Rattle.search_theory.proofs.Walk.{differ}
use Rattle.search_theory.proofs.Turn.{split}
use Rattle.search_law.specs.Views.{entry, view, queued, key_of, key_at}
use Rattle.search_law.specs.Boards.{board, enqueued, Keyed, Moves}
use Rattle.search_law.proofs.Keys.{no_key, enq_long, enq_other, enq_here}

-- row j is written as w, and queued by its key
pub record Wrote (rows after : List Row) (t held : List (Option Pair)) (used more j : ℕ) (w : Row) : Type 0 where
  pub here : get_or after j blank ≡ w
  pub there : (k : ℕ) → (k ≡ j → ⊥) → get_or after k blank ≡ get_or rows k blank
  pub only : Only (view rows used) (view after more) (queued t) (queued held) j
  pub shut : Shut (view after more) (queued held) j → ⊥
  pub keyed : Keyed (board rows t used) → used ≤ more → j < more → ((k : Pair) → at t j ≡ Some k → key_of w.steps w.estimate ≡ None → ⊥) → Keyed (board after held more)
  pub long : length after ≡ length rows
  pub space : length held ≡ length t

module _ (rows : List Row) (t : List (Option Pair)) (used more j : ℕ) (w : Row) (inside : j < length rows) (space : j < length t) where
  abbrev after : List Row
  after = set rows j w

  abbrev key : Option Pair
  key = key_of w.steps w.estimate

  abbrev held : List (Option Pair)
  held = enqueued t j key

  here : get_or after j blank ≡ w
  here = get_or-set_same rows j w blank inside

  there : (k : ℕ) → (k ≡ j → ⊥) → get_or after k blank ≡ get_or rows k blank
  there k ne = get_or-set_other rows j k w blank ne

  not_shut : Shut (view after more) (queued held) j → ⊥
  not_shut shut = go key refl where
    go : (o : Option Pair) → key ≡ o → ⊥
    go None e = omega (arith, shut.1, ap (λ v. rank v.estimate) here, no_key w.steps w.estimate e)
    go (Some k) e = differ (ap (λ o. is_some (at (enqueued t j o) j)) e ∙ ap is_some (enq_here t j k space)) shut.0

  keyed : Keyed (board rows t used) → used ≤ more → j < more → ((k : Pair) → at t j ≡ Some k → key ≡ None → ⊥) → Keyed (board after held more)
  keyed old le lt stale = split j (λ i. (k : Pair) → at held i ≡ Some k → (i < more) × (key_at after i ≡ Some k)) at_j elsewhere where
    go : (o : Option Pair) → key ≡ o → (k : Pair) → at (enqueued t j o) j ≡ Some k → key ≡ Some k
    go None e k h = absurd (stale k h e)
    go (Some x) e k h = e ∙ sym (enq_here t j x space) ∙ h

    at_j : (k : Pair) → at held j ≡ Some k → (j < more) × (key_at after j ≡ Some k)
    at_j k h = (lt, ap (λ v. key_of v.steps v.estimate) here ∙ go key refl k h)

    elsewhere : (i : ℕ) → (i ≡ j → ⊥) → (k : Pair) → at held i ≡ Some k → (i < more) × (key_at after i ≡ Some k)
    elsewhere i ne k h =
        let z = old i k (sym (enq_other t j key i ne) ∙ h) in
        (omega (arith, z.0), ap (λ v. key_of v.steps v.estimate) (there i ne) ∙ z.1)

  pub wrote : Wrote rows after t held used more j w
  wrote = record {
    here = here;
    there = there;
    only = record { row = λ k ne. ap entry (there k ne); queued = λ k ne. ap is_some (enq_other t j key k ne) };
    shut = not_shut;
    keyed = keyed;
    long = length-set rows j w;
    space = enq_long t j key;
  }

-- rows that differ in links alone say the same
pub view_alike : {rows after : List Row} → Alike rows after → (u : ℕ) → view after u ≡ view rows u
view_alike {rows} {after} e u = ap (λ f. record { used = u; row = f }) (fun_ext (λ k. ap entry (e.same k)))

pub keyed_alike : {rows after : List Row} → Alike rows after → (t : List (Option Pair)) (u : ℕ) → Keyed (board rows t u) → Keyed (board after t u)
keyed_alike e t u h k x q = let z = h k x q in (z.0, ap (λ w. key_of w.steps w.estimate) (e.same k) ∙ z.1)

pub moves_refl : (p : Problem) (s : State) (v : State → ℕ) (A : Type 0) (rows : List Row) (t : List (Option Pair)) (used : ℕ) → used ≤ length rows → Moves p s v A (board rows t used) (board rows t used)
moves_refl p s v A rows t used le = record { more = omega arith; fits = le; long = refl; space = refl; rest = λ k _. refl; falls = omega arith; thrifty = λ h. h; told = λ _ h. h }

module _ (p : Problem) (s : State) (v : State → ℕ) (A : Type 0) where
  pub moves_alike : (first rows mended : List Row) → Alike rows mended → (t u : List (Option Pair)) (used n : ℕ) → ((k : ℕ) → n ≤ k → get_or mended k blank ≡ get_or first k blank) → Moves p s v A (board first t used) (board rows u n) → Moves p s v A (board first t used) (board mended u n)
  moves_alike first rows mended e t u used n rest m = record {
    more = m.more;
    fits = m.fits;
    long = e.long ∙ m.long;
    space = m.space;
    rest = rest;
    falls = subst (λ r. potential (length first) r (queued u) ≤ potential (length first) (view first used) (queued t)) (sym (view_alike e n)) m.falls;
    thrifty = λ h. subst (Thrifty p s) (sym (view_alike e n)) (m.thrifty h);
    told = λ a h. subst (Told v) (sym (view_alike e n)) (m.told a h);
  }

-- one stretch of steps after another, of estimators with the same function
pub moves_trans : (p : Problem) (s : State) (v w : State → ℕ) (A B : Type 0) (rows mid after : List Row) (t m u : List (Option Pair)) (used half all : ℕ) → ((x : State) → w x ≡ v x) → (A → B) → Moves p s v A (board rows t used) (board mid m half) → Moves p s w B (board mid m half) (board after u all) → Moves p s v A (board rows t used) (board after u all)
moves_trans p s v w A B rows mid after t m u used half all same still a b = record {
  more = omega (arith, a.more, b.more);
  fits = omega (arith, b.fits, a.long);
  long = b.long ∙ a.long;
  space = b.space ∙ a.space;
  rest = λ k le. b.rest k le ∙ a.rest k (omega (arith, b.more));
  falls = omega (arith, a.falls, subst (λ n. potential n (view after all) (queued u) ≤ potential n (view mid half) (queued m)) a.long b.falls);
  thrifty = λ h. b.thrifty (a.thrifty h);
  told = λ h k i lt. b.told (still h) (λ j jl. a.told h k j jl ∙ sym (same _)) i lt ∙ same _;
}
