-- The rows of a settling, as the loop writes them. Assumes nothing.
use Rattle.std.proofs.Common.{◌≡◌, ℕ, ◌+◌, ◌*◌, ◌<◌, ◌≤◌, Bool, true, false, not, ◌&&◌, ◌||◌, eqb, min, ◌⊎◌, List, [], ◌∷◌, ◌++◌, map, length, get_or, take, drop, set, Option, sym, refl, ap, ◌∙◌, subst, inl, inr, ⊎_elim, arith}
use lib.ListN.{length-map}
use Rattle.std.proofs.lemmas.List.{take_more_set, drop-set-lt, length-take-le, drop-drop, map_push}
use Rattle.std.proofs.lemmas.Bool.{cases_Bool, false≢true}
use Rattle.figure.specs.declared.figure.Figure.{Figure}
use Rattle.figure.specs.declared.figure.Figure.TheVariants.{None}
use Rattle.figure.proofs.Same.{rank_low}
use Rattle.model.specs.Strips.{State, Problem, items, names, struck}
use Rattle.model.specs.Figures.{Rule, Laws, Table, table, least, equations, Solves}
use Rattle.model.specs.Docket.{Row, row, Docket}
use Rattle.model.specs.Settling.{Step, Settling, reads}
use Rattle.model.specs.Settling.Settling.{more}
use Rattle.model.proofs.Equations.{system, local}
use Rattle.model.proofs.Ranked.{table_other}
use Rattle.model.proofs.Runs.{settles, tracked}
use Rattle.model.proofs.Tracks.{spent_solves}
use Rattle.std.specs.declared.option.Option.TheVariants as option
use Rattle.strips.specs.declared.state.State.{State as StateValue}
use Rattle.settling.specs.declared.row.DocketRow.{DocketRow}
use Rattle.settling.specs.declared.base.Base.{Base}
use Rattle.settling.specs.declared.held.HeldFigures.{HeldFigures}
use Rattle.settling.specs.Holding.{row_of, Fitting, Keeping, Resting, Turned}

-- one more row
pub rows_more : (F : Table → Table) (first figures after : List Figure) (d : List DocketRow) (n : ℕ) (w : DocketRow) → Settling F first figures (map row_of (take n d)) → n < length d → Step F figures w.item w.after → w.before ≡ get_or figures w.item None → after ≡ set figures w.item w.after → Settling F first after (map row_of (take (n + 1) (set d n w)))
rows_more F first figures after d n w run room step before e =
    let rows : map row_of (take (n + 1) (set d n w)) ≡ map row_of (take n d) ++ (row w.item (get_or figures w.item None) w.after ∷ []) =
    ap (map row_of) (take_more_set d n w room) ∙ map_push row_of (take n d) w ∙ ap (λ b. map row_of (take n d) ++ (row w.item b w.after ∷ [])) before in
    subst (λ (r : List Row). Settling F first after r) (sym rows)
    (subst (λ (h : List Figure). Settling F first h (map row_of (take n d) ++ (row w.item (get_or figures w.item None) w.after ∷ []))) (sym e) (more w.item w.after run step))

-- later rows are left alone
pub later_more : (d e : List DocketRow) (n : ℕ) (w : DocketRow) → drop n d ≡ drop n e → drop (n + 1) (set d n w) ≡ drop (n + 1) e
later_more d e n w same = drop-set-lt (n + 1) d n w (omega arith) ∙ sym (drop-drop 1 n d) ∙ ap (drop 1) same ∙ drop-drop 1 n e

module _ (rule : Rule) (laws : Laws rule) (p : Problem) (s : State) (first figures : List Figure) (d : List DocketRow) (n : ℕ) (long : length first ≡ items p) (run : Settling (equations rule p s) first figures (map row_of (take n d))) where
  pub run_docket : Docket first figures (map row_of (take n d))
  run_docket = (settles (items p) (equations rule p s) (system rule laws p s) first figures (map row_of (take n d)) long run).docket

  -- after two rows for each item every item is consistent
  pub run_spent : 2 * items p ≤ n → n ≤ length d → Solves (equations rule p s) (table figures)
  run_spent full within =
      let t = tracked (items p) (equations rule p s) (system rule laws p s) long run in
      spent_solves (items p) (equations rule p s) (system rule laws p s) first figures t.0 (map row_of (take n d)) t.1
      (omega (arith, full, length-map (take n d) row_of, length-take-le n d within))

-- a change at q makes at most its readers stale
pub read_stale : (rule : Rule) (p : Problem) (s : State) (held : List Figure) (q : ℕ) (f : Figure) (readers : List ℕ) → ((r : ℕ) → reads p r q ≡ true → names readers r ≡ true) → (r : ℕ) → (names readers r ≡ true) ⊎ (equations rule p s (table (set held q f)) r ≡ equations rule p s (table held) r)
read_stale rule p s held q f readers listed r =
    ⊎_elim
    (λ e. inl (listed r e))
    (λ e. inr (local rule p s (table held) (table (set held q f)) q (λ t o. table_other held q f t o) r e))
    (cases_Bool (reads p r q))

-- what is left of the stale items when the first of the list is struck
pub struck_first : (x : ℕ) (l : List ℕ) (r : ℕ) → struck x (names (x ∷ l)) r ≡ true → names l r ≡ true
struck_first x l r e = go (eqb x r) (names l r) e where
  go : (a b : Bool) → (not a && (a || b)) ≡ true → b ≡ true
  go true b e = absurd (false≢true e)
  go false b e = e

-- one more item
pub least_push : (figures : List Figure) (qs : List ℕ) (q v w : ℕ) → least (table figures) qs ≡ v → w ≡ min v (table figures q) → least (table figures) (qs ++ (q ∷ [])) ≡ w
least_push figures [] q v w e m = omega (arith, e, m, rank_low (get_or figures q None))
least_push figures (p ∷ qs) q v w e m = omega (arith, e, m, least_push figures qs q (least (table figures) qs) (min (least (table figures) qs) (table figures q)) refl refl)

-- a turn that answers no row
pub resting : {R Q : Type 0} (result : R → Rule) (pairs : Q → List (Option Figure)) (base : Base R) (state : StateValue) (h k : HeldFigures Q) (r : Option DocketRow) → r ≡ option.None → (Fitting base h → Keeping result pairs base state h → Resting result pairs base state h k) → Turned result pairs base state h k r
resting result pairs base state h k r e rest = subst (λ s. Turned result pairs base state h k s) (sym e) rest
