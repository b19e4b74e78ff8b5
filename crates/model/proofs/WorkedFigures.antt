-- The worked examples of figures. Assumes nothing.
use Rattle.std.proofs.Common.{◌≡◌, ℕ, ◌<◌, ◌≤◌, ◌≢◌, List, [], ◌∷◌, map, length, get_or, sym, refl, ap, ◌∙◌, ⊎_elim, arith}
use Rattle.std.specs.List.{AllByRecursion}
use Rattle.std.proofs.lemmas.List.{get_or_past}
use Rattle.std.proofs.lemmas.Bool.{cases_lt, cond-false, ne_eqb, false≢true}
use Rattle.figure.specs.declared.figure.Figure.{Figure}
use Rattle.figure.specs.declared.figure.Figure.TheVariants.{None}
use Rattle.figure.specs.Ranks.{rank, halved}
use Rattle.model.specs.Strips.{Lawful, Problem, these, May, step, Goal, Plan}
use Rattle.model.specs.Figures.{Rule, Laws, Table, figure_of, goal_figure}
use Rattle.model.specs.Docket.{Row, row, FitsRow, rows_of, changes, Docket}
use Rattle.model.specs.FigureExamples.{task_b, task_c, task_d, figures_c, figures_c_struck, rows_c, figures_d, figures_d_struck, rows_d, WorkedFigures}
use Rattle.model.proofs.Counts.{same_length}
use Rattle.model.proofs.WorkedTables.{Upto, upto, table_a, table_c, table_c_struck, table_d, table_d_struck, goal_a_additive, goal_a_max, goal_b_additive, goal_b_max}

plan_b : Plan task_b (these (0 ∷ [])) (0 ∷ [])
unfolding May Goal step
plan_b = (((omega arith, (refl, tt)), tt), (refl, (refl, tt)))

shortest_b : (acts : List ℕ) → Plan task_b (these (0 ∷ [])) acts → 1 ≤ length acts
unfolding Goal
shortest_b [] plan = absurd (false≢true plan.1.0)
shortest_b (a ∷ acts) plan = omega arith

-- ---- dockets
pub fits : (x : List Figure) (q : ℕ) (b a : Figure) → q < length x → get_or x q None ≡ b → rank b ≢ rank a → FitsRow x (row q b a)
fits x q b a l e o = record { item = l; before = e; other = λ i. o (ap rank i) }

rows_past : (n r : ℕ) → n ≤ r → (rows : List Row) → AllByRecursion (λ w. w.item < n) rows → rows_of r rows ≡ []
rows_past n r h [] e = refl
rows_past n r h (w ∷ ws) e = cond-false _ _ _ (ne_eqb w.item r (λ i. omega (arith, e.0))) ∙ rows_past n r h ws e.1

abbrev Exact : List Figure → List Figure → List Row → ℕ → Type 0
Exact before after rows r = rows_of r rows ≡ changes r (get_or before r None) (get_or after r None)

pub exact_from : (n : ℕ) (before after : List Figure) (rows : List Row) → length before ≡ n → length after ≡ n → AllByRecursion (λ w. w.item < n) rows → Upto n (Exact before after rows) → (r : ℕ) → Exact before after rows r
exact_from n before after rows b a e u r =
    ⊎_elim
    (upto n (Exact before after rows) u r)
    (λ h. rows_past n r h rows e ∙ sym (ap (λ f. changes r f (get_or after r None)) (get_or_past before r None (omega arith)) ∙ ap (changes r None) (get_or_past after r None (omega arith))))
    (cases_lt r n)

pub docket_c : Docket figures_c figures_c_struck rows_c
unfolding figure_of
docket_c = record {
  applies = (fits _ 0 _ _ (omega arith) refl (omega arith), (fits _ 5 _ _ (omega arith) refl (omega arith), (fits _ 1 _ _ (omega arith) refl (omega arith), (fits _ 3 _ _ (omega arith) refl (omega arith), (fits _ 2 _ _ (omega arith) refl (omega arith), (fits _ 4 _ _ (omega arith) refl (omega arith), refl))))));
  exact = exact_from 6 figures_c figures_c_struck rows_c refl refl (omega arith) ((((((tt, refl), refl), refl), refl), refl), refl);
  rising = omega arith;
}

docket_d : Docket figures_d figures_d_struck rows_d
unfolding figure_of
docket_d = record {
  applies = (fits _ 0 _ _ (omega arith) refl (omega arith), (fits _ 4 _ _ (omega arith) refl (omega arith), (fits _ 1 _ _ (omega arith) refl (omega arith), (fits _ 1 _ _ (omega arith) refl (omega arith), refl))));
  exact = exact_from 7 figures_d figures_d_struck rows_d refl refl (omega arith) (((((((tt, refl), refl), refl), refl), refl), refl), refl);
  rising = omega arith;
}

-- ---- an empty goal
empty_goal : (rule : Rule) → Laws rule → (p : Problem) → p.goal ≡ [] → (x : Table) → goal_figure rule p x ≡ 0
empty_goal rule laws p e x = ap (λ l. halved (rule (map x l))) e ∙ ap halved laws.nothing

lawful_c : Lawful task_c
lawful_c = record {
  some = omega arith;
  few = omega arith;
  actions_few = omega arith;
  actions_fit = (omega arith, (omega arith, (omega arith, tt)));
  goal = omega arith;
  start = omega arith;
}

lawful_d : Lawful task_d
lawful_d = record {
  some = omega arith;
  few = omega arith;
  actions_few = omega arith;
  actions_fit = (omega arith, (omega arith, (omega arith, tt)));
  goal = omega arith;
  start = omega arith;
}

pub worked_figures : WorkedFigures
worked_figures = record {
  lawful = (omega arith, omega arith, lawful_c, lawful_d);
  table_a = table_a;
  goal_a_additive = goal_a_additive;
  goal_a_max = goal_a_max;
  goal_b_additive = goal_b_additive;
  goal_b_max = goal_b_max;
  plan_b = plan_b;
  shortest_b = shortest_b;
  table_c = table_c;
  table_c_struck = table_c_struck;
  docket_c = docket_c;
  six_rows_c = λ rows d. same_length figures_c figures_c_struck rows_c rows docket_c d;
  table_d = table_d;
  table_d_struck = table_d_struck;
  docket_d = docket_d;
  four_rows_d = λ rows d. same_length figures_d figures_d_struck rows_d rows docket_d d;
  empty_goal = empty_goal;
  at_ceiling = refl;
  above_ceiling = refl;
}
