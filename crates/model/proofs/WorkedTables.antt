-- The tables and goal figures of the worked examples. Assumes nothing.
use Rattle.std.proofs.Common.{◌≡◌, ℕ, zero, suc, ◌<◌, List, [], ◌∷◌, map, length, sym, refl, ap, ◌∙◌, subst, ⊎_elim, arith}
use Rattle.std.specs.List.{AllByRecursion}
use Rattle.std.proofs.lemmas.Bool.{cases_lt, cases_eq}
use Rattle.figure.specs.declared.figure.Figure.{Figure}
use Rattle.figure.specs.Ranks.{halved}
use Rattle.model.specs.Strips.{Problem, items, these}
use Rattle.model.specs.Figures.{Rule, Laws, additive_rule, max_rule, Table, figure_of, table, node, equations, Solves, goal_figure}
use Rattle.model.specs.Examples.{task_a}
use Rattle.model.specs.FigureExamples.{task_b, task_c, task_d, Told, BothTold, GoalTold, figures_a, figures_c, figures_c_struck, figures_d, figures_d_struck}
use Rattle.model.proofs.Causal.{agree}
use Rattle.model.proofs.Equations.{system, additive_laws, max_laws, map_same}
use Rattle.model.proofs.Ranked.{table_past}

-- ---- what holds of 0, 1, .. below n
abbrev pub Upto : ℕ → (ℕ → Type 0) → Type 0
Upto zero P = Unit {0}
Upto (suc n) P = Upto n P × P n

pub upto : (n : ℕ) (P : ℕ → Type 0) → Upto n P → (q : ℕ) → q < n → P q
upto zero P u q l = absurd (omega arith)
upto (suc n) P u q l = ⊎_elim (λ i. subst P (sym i) u.1) (λ o. upto n P u.0 q (omega arith)) (cases_eq q n)

-- ---- tables
module _ (rule : Rule) (laws : Laws rule) (p : Problem) (standing : List ℕ) (figures : List Figure) (long : length figures ≡ items p) where
  abbrev F : Table → Table
  F = equations rule p (these standing)

  solves_from : Upto (items p) (λ q. table figures q ≡ F (table figures) q) → Solves F (table figures)
  solves_from u q =
      ⊎_elim
      (upto (items p) (λ r. table figures r ≡ F (table figures) r) u q)
      (λ h. table_past figures q (omega arith) ∙ sym ((system rule laws p (these standing)).beyond (table figures) q h))
      (cases_lt q (items p))

  told_from : Upto (items p) (λ q. table figures q ≡ F (table figures) q) → Told rule p standing figures
  told_from u = record { solves = solves_from u; only = λ x e q. agree F (system rule laws p (these standing)).causal x (table figures) e (solves_from u) q }

-- every table is the same over the goal
all_same : (x y : Table) → ((q : ℕ) → x q ≡ y q) → (l : List ℕ) → AllByRecursion (λ q. x q ≡ y q) l
all_same x y h [] = tt
all_same x y h (q ∷ l) = (h q, all_same x y h l)

goal_from : (rule : Rule) (p : Problem) (standing : List ℕ) (figures : List Figure) → Told rule p standing figures → (v : ℕ) → goal_figure rule p (table figures) ≡ v → GoalTold rule p standing v
goal_from rule p standing figures told v e x sx =
    ap (λ l. halved (rule l)) (map_same (table figures) x p.goal (all_same x (table figures) (told.only x sx) p.goal)) ∙ e

table_a_additive : Told additive_rule task_a (0 ∷ []) figures_a
unfolding equations node figure_of
table_a_additive = told_from additive_rule additive_laws task_a (0 ∷ []) figures_a refl (((((tt, refl), refl), refl), refl), refl)

table_a_max : Told max_rule task_a (0 ∷ []) figures_a
unfolding equations node figure_of
table_a_max = told_from max_rule max_laws task_a (0 ∷ []) figures_a refl (((((tt, refl), refl), refl), refl), refl)

pub table_a : BothTold task_a (0 ∷ []) figures_a
table_a = record { by_additive = table_a_additive; by_max = table_a_max }

-- task B: facts 0, 2, 2 and the action 1
abbrev pub figures_b : List Figure
figures_b = map figure_of (0 ∷ 2 ∷ 2 ∷ 1 ∷ [])

table_b_additive : Told additive_rule task_b (0 ∷ []) figures_b
unfolding equations node figure_of
table_b_additive = told_from additive_rule additive_laws task_b (0 ∷ []) figures_b refl ((((tt, refl), refl), refl), refl)

table_b_max : Told max_rule task_b (0 ∷ []) figures_b
unfolding equations node figure_of
table_b_max = told_from max_rule max_laws task_b (0 ∷ []) figures_b refl ((((tt, refl), refl), refl), refl)

table_b : BothTold task_b (0 ∷ []) figures_b
table_b = record { by_additive = table_b_additive; by_max = table_b_max }

table_c_additive : Told additive_rule task_c (0 ∷ []) figures_c
unfolding equations node figure_of
table_c_additive = told_from additive_rule additive_laws task_c (0 ∷ []) figures_c refl ((((((tt, refl), refl), refl), refl), refl), refl)

table_c_max : Told max_rule task_c (0 ∷ []) figures_c
unfolding equations node figure_of
table_c_max = told_from max_rule max_laws task_c (0 ∷ []) figures_c refl ((((((tt, refl), refl), refl), refl), refl), refl)

pub table_c : BothTold task_c (0 ∷ []) figures_c
table_c = record { by_additive = table_c_additive; by_max = table_c_max }

table_c_struck_additive : Told additive_rule task_c ([]) figures_c_struck
unfolding equations node figure_of
table_c_struck_additive = told_from additive_rule additive_laws task_c ([]) figures_c_struck refl ((((((tt, refl), refl), refl), refl), refl), refl)

table_c_struck_max : Told max_rule task_c ([]) figures_c_struck
unfolding equations node figure_of
table_c_struck_max = told_from max_rule max_laws task_c ([]) figures_c_struck refl ((((((tt, refl), refl), refl), refl), refl), refl)

pub table_c_struck : BothTold task_c ([]) figures_c_struck
table_c_struck = record { by_additive = table_c_struck_additive; by_max = table_c_struck_max }

table_d_additive : Told additive_rule task_d (0 ∷ 2 ∷ []) figures_d
unfolding equations node figure_of
table_d_additive = told_from additive_rule additive_laws task_d (0 ∷ 2 ∷ []) figures_d refl (((((((tt, refl), refl), refl), refl), refl), refl), refl)

table_d_max : Told max_rule task_d (0 ∷ 2 ∷ []) figures_d
unfolding equations node figure_of
table_d_max = told_from max_rule max_laws task_d (0 ∷ 2 ∷ []) figures_d refl (((((((tt, refl), refl), refl), refl), refl), refl), refl)

pub table_d : BothTold task_d (0 ∷ 2 ∷ []) figures_d
table_d = record { by_additive = table_d_additive; by_max = table_d_max }

table_d_struck_additive : Told additive_rule task_d (2 ∷ []) figures_d_struck
unfolding equations node figure_of
table_d_struck_additive = told_from additive_rule additive_laws task_d (2 ∷ []) figures_d_struck refl (((((((tt, refl), refl), refl), refl), refl), refl), refl)

table_d_struck_max : Told max_rule task_d (2 ∷ []) figures_d_struck
unfolding equations node figure_of
table_d_struck_max = told_from max_rule max_laws task_d (2 ∷ []) figures_d_struck refl (((((((tt, refl), refl), refl), refl), refl), refl), refl)

pub table_d_struck : BothTold task_d (2 ∷ []) figures_d_struck
table_d_struck = record { by_additive = table_d_struck_additive; by_max = table_d_struck_max }

pub goal_a_additive : GoalTold additive_rule task_a (0 ∷ []) 2
unfolding figure_of
goal_a_additive = goal_from additive_rule task_a (0 ∷ []) figures_a table_a_additive 2 refl

pub goal_a_max : GoalTold max_rule task_a (0 ∷ []) 2
unfolding figure_of
goal_a_max = goal_from max_rule task_a (0 ∷ []) figures_a table_a_max 2 refl

pub goal_b_additive : GoalTold additive_rule task_b (0 ∷ []) 2
unfolding figure_of
goal_b_additive = goal_from additive_rule task_b (0 ∷ []) figures_b table_b_additive 2 refl

pub goal_b_max : GoalTold max_rule task_b (0 ∷ []) 1
unfolding figure_of
goal_b_max = goal_from max_rule task_b (0 ∷ []) figures_b table_b_max 1 refl
