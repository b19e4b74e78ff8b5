-- Settlings: each is tracked, ends soon, and can go on until all is consistent. Assumes nothing.
use Rattle.std.proofs.Common.{◌≡◌, ℕ, zero, suc, ◌+◌, ◌*◌, ◌<◌, ◌≤◌, ltb, ◌⊎◌, List, [], ◌∷◌, ◌++◌, length, get_or, set, sym, ap, ◌∙◌, inl, inr, ⊎_elim, arith, length-append}
use Rattle.std.proofs.lemmas.Bool.{cases_lt, cases_eq, cond_both}
use Rattle.figure.specs.declared.figure.Figure.{Figure}
use Rattle.figure.specs.declared.figure.Figure.TheVariants.{None}
use Rattle.figure.specs.Ranks.{top}
use Rattle.model.specs.Strips.{items}
use Rattle.model.specs.Figures.{Table, table, figure_of, equations, Solves}
use Rattle.model.specs.Docket.{Row, row}
use Rattle.model.specs.Settling.{Consistent, key, next, Step, Settling, Settles, StepsKeep, Settlings, SettlingEnds}
use Rattle.model.specs.Settling.Settling.{begun, more}
use Rattle.model.proofs.Causal.{System}
use Rattle.model.proofs.Equations.{system}
use Rattle.model.proofs.Ranked.{rank_figure, table_past}
use Rattle.model.proofs.Steps.{keeps}
use Rattle.model.proofs.Tracks.{Track, track_start, track_more, track_docket, within_solves, step_way, step_least, step_moved}

pub steps_keep : StepsKeep
steps_keep rule laws p s h q f t =
    keeps (items p) (equations rule p s) (system rule laws p s) (table h) q (key (equations rule p s) (table h) q) (table (set h q f)) (step_moved (equations rule p s) h q f t)

-- of the first m items either all are consistent, or one is not and has the least key
pub least_key : (F : Table → Table) (x : Table) (m : ℕ) → ((r : ℕ) → r < m → Consistent F x r) ⊎ ((q : ℕ) × (q < m) × (Consistent F x q → ⊥) × ((r : ℕ) → r < m → Consistent F x r ⊎ (key F x q ≤ key F x r)))
least_key F x zero = inl (λ r l. absurd (omega arith))
least_key F x (suc m) =
    ⊎_elim
    (λ e. ⊎_elim
    (λ all. inl (λ r l. ⊎_elim (λ i. rw i e) (λ o. all r (omega arith)) (cases_eq r m)))
    (λ (q, l, off, low). inr (q, omega arith, off, λ r i. ⊎_elim (λ j. inl (rw j e)) (λ o. low r (omega arith)) (cases_eq r m)))
    (least_key F x m))
    (λ off. ⊎_elim
    (λ all. inr (m, omega arith, off, λ r l. ⊎_elim (λ i. inr (omega (arith, ap x i, ap (F x) i))) (λ o. inl (all r (omega arith))) (cases_eq r m)))
    (λ (q, l, low-off, low).
    ⊎_elim
    (λ less. inr (m, omega arith, off, λ r i. ⊎_elim (λ j. inr (omega (arith, ap x j, ap (F x) j))) (λ o. ⊎_elim inl (λ k. inr (omega arith)) (low r (omega arith))) (cases_eq r m)))
    (λ more-key. inr (q, omega arith, low-off, λ r i. ⊎_elim (λ j. inr (omega (arith, ap x j, ap (F x) j))) (λ o. low r (omega arith)) (cases_eq r m)))
    (cases_lt (key F x m) (key F x q)))
    (least_key F x m))
    (cases_eq (x m) (F x m))

module _ (n : ℕ) (F : Table → Table) (s : System n F) where
  pub tracked : {h₀ h : List Figure} {rows : List Row} → length h₀ ≡ n → Settling F h₀ h rows → (k : ℕ) × Track n F h₀ h k rows
  tracked {h₀} e begun = (0, track_start n F h₀ e)
  tracked {h₀} e (more {figures = h} {rows} q f run t) =
      let (k, w) = tracked e run in
      (key F (table h) q, track_more n F s h₀ h k rows w q (key F (table h) q) f t.item (step_least F h q f t) (step_way F h q f t))

  next_figure : (x : Table) (q : ℕ) → next F x q ≤ top
  next_figure x q = cond_both (ltb (F x q) (x q)) (F x q) top (λ v. v ≤ top) (λ _. s.bound x q) (λ _. omega arith)

  can_step : (h : List Figure) → length h ≡ n → (r : ℕ) → (Consistent F (table h) r → ⊥) → (q : ℕ) × (f : Figure) × Step F h q f
  can_step h e r off =
      let past : (i : ℕ) → n ≤ i → Consistent F (table h) i = λ i l. table_past h i (omega arith) ∙ sym (s.beyond (table h) i l) in
      ⊎_elim
      (λ all. absurd (off (⊎_elim (all r) (past r) (cases_lt r n))))
      (λ (q, l, bad, low). (
        q,
        figure_of (next F (table h) q),
        record {
          item = omega arith;
          inconsistent = bad;
          least = λ i. ⊎_elim (low i) (λ m. inl (past i m)) (cases_lt i n);
          figure = let c = rank_figure (next F (table h) q) in let b = next_figure (table h) q in omega arith;
        },
      ))
      (least_key F (table h) n)

  pub settles : (h₀ h : List Figure) (rows : List Row) → length h₀ ≡ n → Settling F h₀ h rows → Settles n F h₀ h rows
  settles h₀ h rows e run =
      let (k, t) = tracked e run in
      record {
        docket = track_docket n F s h₀ h k rows t;
        few = omega (arith, t.budget);
        further = can_step h t.long;
        ended = within_solves n F s h₀ h k rows t;
      }

  finish : (h₀ : List Figure) → length h₀ ≡ n → (u : ℕ) (h : List Figure) (rows : List Row) → Settling F h₀ h rows → 2 * n < u + length rows → (g : List Figure) × (all : List Row) × Settling F h₀ g all × Solves F (table g)
  finish h₀ e zero h rows run l = absurd (omega (arith, (settles h₀ h rows e run).few))
  finish h₀ e (suc u) h rows run l =
      let now = settles h₀ h rows e run in
      ⊎_elim
      (λ all. (h, rows, run, now.ended all))
      (λ (r, _, off, _).
      let (q, f, t) = now.further r off in
      finish h₀ e u (set h q f) (rows ++ (row q (get_or h q None) f ∷ [])) (more q f run t) (omega (arith, length-append rows (row q (get_or h q None) f ∷ []))))
      (least_key F (table h) n)

  ends : (h₀ : List Figure) → length h₀ ≡ n → (g : List Figure) × (all : List Row) × Settling F h₀ g all × Solves F (table g)
  ends h₀ e = finish h₀ e (suc (2 * n)) h₀ [] begun (omega arith)

pub settling_ends : SettlingEnds
settling_ends rule laws p s h₀ e = ends (items p) (equations rule p s) (system rule laws p s) h₀ e

pub settlings : Settlings
settlings rule laws p s h₀ h rows e run = settles (items p) (equations rule p s) (system rule laws p s) h₀ h rows e run
