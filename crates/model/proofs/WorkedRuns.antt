-- The worked run of a session. Assumes nothing.
use Rattle.std.proofs.Common.{◌≡◌, ℕ, List, [], ◌∷◌, length, sym, refl, ap, ◌∙◌, ⊎_elim, arith}
use Rattle.std.proofs.lemmas.Bool.{cases_lt}
use Rattle.figure.specs.declared.figure.Figure.{Figure}
use Rattle.figure.specs.declared.figure.Figure.TheVariants.{None}
use Rattle.figure.specs.Ranks.{top}
use Rattle.model.specs.Strips.{State, these, entered, struck}
use Rattle.model.specs.Figures.{Rule, Laws, additive_rule, max_rule, figure_of, table, node, equations, Solves, goal_figure}
use Rattle.model.specs.Docket.{Docket}
use Rattle.model.specs.FigureExamples.{task_c, figures_c, figures_c_struck, rows_c}
use Rattle.model.specs.Runs.Reply.{is}
use Rattle.model.specs.RunExamples.{rows_c_begun, RightRun, WorkedRuns}
use Rattle.model.proofs.Equations.{system, additive_laws, max_laws}
use Rattle.model.proofs.Ranked.{table_past}
use Rattle.model.proofs.WorkedTables.{Upto, upto}
use Rattle.model.proofs.WorkedFigures.{fits, exact_from, docket_c}

-- every figure none, as at the opening
abbrev nones : List Figure
nones = None ∷ None ∷ None ∷ None ∷ None ∷ None ∷ []

all_none : (q : ℕ) → table nones q ≡ top
all_none q = ⊎_elim (upto 6 (λ r. table nones r ≡ top) ((((((tt, refl), refl), refl), refl), refl), refl) q) (λ h. table_past nones q h) (cases_lt q 6)

-- the facts that stand at first, with 0 struck, and with 0 entered again
abbrev first : State
first = these (0 ∷ [])

abbrev without : State
without = struck 0 first

abbrev again : State
again = entered 0 without

docket_begun : Docket nones figures_c rows_c_begun
unfolding figure_of
docket_begun = record {
  applies = (fits _ 0 _ _ (omega arith) refl (omega arith), (fits _ 5 _ _ (omega arith) refl (omega arith), (fits _ 1 _ _ (omega arith) refl (omega arith), (fits _ 3 _ _ (omega arith) refl (omega arith), (fits _ 2 _ _ (omega arith) refl (omega arith), (fits _ 4 _ _ (omega arith) refl (omega arith), refl))))));
  exact = exact_from 6 nones figures_c rows_c_begun refl refl (omega arith) ((((((tt, refl), refl), refl), refl), refl), refl);
  rising = omega arith;
}

docket_same : Docket figures_c figures_c []
unfolding figure_of
docket_same = record {
  applies = refl;
  exact = exact_from 6 figures_c figures_c [] refl refl tt ((((((tt, refl), refl), refl), refl), refl), refl);
  rising = tt;
}

-- what a table of six figures is to be checked for
abbrev Six : Rule → State → List Figure → Type 0
Six rule s figures = Upto 6 (λ q. table figures q ≡ equations rule task_c s (table figures) q)

module _ (rule : Rule) (laws : Laws rule) where
  solves_in : (s : State) (figures : List Figure) → length figures ≡ 6 → Six rule s figures → Solves (equations rule task_c s) (table figures)
  solves_in s figures long u q =
      ⊎_elim
      (upto 6 (λ r. table figures r ≡ equations rule task_c s (table figures) r) u q)
      (λ h. table_past figures q (omega arith) ∙ sym ((system rule laws task_c s).beyond (table figures) q h))
      (cases_lt q 6)

  run_from : Six rule first figures_c → Six rule without figures_c_struck → Six rule again figures_c → goal_figure rule task_c (table figures_c) ≡ 2 → goal_figure rule task_c (table figures_c_struck) ≡ top → RightRun rule
  unfolding figure_of
  run_from u v w two none =
      let at_first = solves_in first figures_c refl u in
      let at-struck = solves_in without figures_c_struck refl v in
      let at_again = solves_in again figures_c refl w in
      let is-two = ap (λ n. is (figure_of n)) (sym two) in
      let is_none = ap (λ n. is (figure_of n)) (sym none) in (
        refl,
        (
          refl,
          (
            record { rows = rows_c_begun; wrote_rows = refl; fit = omega arith; before = nones; after = figures_c; before_long = refl; earlier = all_none; later = at_first; docket = docket_begun },
            (
              (table figures_c, at_first, is-two),
              (
                refl,
                (
                  refl,
                  (
                    refl,
                    (
                      refl,
                      (
                        record { rows = rows_c; wrote_rows = refl; fit = omega arith; before = figures_c; after = figures_c_struck; before_long = refl; earlier = at_first; later = at-struck; docket = docket_c },
                        (
                          (table figures_c_struck, at-struck, refl),
                          (
                            (table figures_c_struck, at-struck, is_none),
                            (
                              refl,
                              (
                                refl,
                                (
                                  refl,
                                  (
                                    refl,
                                    (
                                      record { rows = rows_c_begun; wrote_rows = refl; fit = omega arith; before = figures_c_struck; after = figures_c; before_long = refl; earlier = at-struck; later = at_again; docket = docket_begun },
                                      (
                                        record { rows = []; wrote_rows = refl; fit = omega arith; before = figures_c; after = figures_c; before_long = refl; earlier = at_again; later = at_again; docket = docket_same },
                                        ((table figures_c, at_again, refl), ((table figures_c, at_again, is-two), tt)),
                                      ),
                                    ),
                                  ),
                                ),
                              ),
                            ),
                          ),
                        ),
                      ),
                    ),
                  ),
                ),
              ),
            ),
          ),
        ),
      )

by_additive : RightRun additive_rule
unfolding equations node figure_of
by_additive =
    run_from additive_rule additive_laws
    ((((((tt, refl), refl), refl), refl), refl), refl) ((((((tt, refl), refl), refl), refl), refl), refl) ((((((tt, refl), refl), refl), refl), refl), refl) refl refl

by_max : RightRun max_rule
unfolding equations node figure_of
by_max =
    run_from max_rule max_laws
    ((((((tt, refl), refl), refl), refl), refl), refl) ((((((tt, refl), refl), refl), refl), refl), refl) ((((((tt, refl), refl), refl), refl), refl), refl) refl refl

pub worked_runs : WorkedRuns
worked_runs = record { by_additive = by_additive; by_max = by_max }
