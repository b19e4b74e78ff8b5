-- Small worked examples of figures, dockets and rules. Assumes nothing.
use Rattle.std.specs.Prelude.{◌≡◌, ℕ, ◌≤◌, List, [], ◌∷◌, map, length}
use Rattle.figure.specs.declared.figure.Figure.{Figure}
use Rattle.figure.specs.declared.figure.Figure.TheVariants.{None}
use Rattle.figure.specs.Ranks.{top}
use Rattle.model.specs.Strips.{Problem, Lawful, Plan, these}
use Rattle.model.specs.Figures.{Rule, Laws, additive_rule, max_rule, Table, figure_of, table, equations, Solves, goal_figure}
use Rattle.model.specs.Docket.{Row, row, Docket}
use Rattle.model.specs.Examples.{act, task_a}

-- one action leads from 0 to 1 and 2
abbrev pub task_b : Problem
task_b = record { facts = 3; actions = act (0 ∷ []) (1 ∷ 2 ∷ []) [] ∷ []; goal = 1 ∷ 2 ∷ []; start = 0 ∷ [] }

-- actions from 1 to 2, from 2 to 1 and from 0 to 1
abbrev pub task_c : Problem
task_c = record {
  facts = 3;
  actions = act (1 ∷ []) (2 ∷ []) [] ∷ act (2 ∷ []) (1 ∷ []) [] ∷ act (0 ∷ []) (1 ∷ []) [] ∷ [];
  goal = 2 ∷ [];
  start = 0 ∷ [];
}

-- actions from 0 to 1, from 2 to 3 and from 3 to 1
abbrev pub task_d : Problem
task_d = record {
  facts = 4;
  actions = act (0 ∷ []) (1 ∷ []) [] ∷ act (2 ∷ []) (3 ∷ []) [] ∷ act (3 ∷ []) (1 ∷ []) [] ∷ [];
  goal = 1 ∷ [];
  start = 0 ∷ 2 ∷ [];
}

-- under the rule the one table, where these facts stand, has these figures
pub record Told (rule : Rule) (p : Problem) (standing : List ℕ) (figures : List Figure) : Type 0 where
  pub solves : Solves (equations rule p (these standing)) (table figures)
  pub only : (x : Table) → Solves (equations rule p (these standing)) x → (q : ℕ) → x q ≡ table figures q

-- so it is under both rules
pub record BothTold (p : Problem) (standing : List ℕ) (figures : List Figure) : Type 0 where
  pub by_additive : Told additive_rule p standing figures
  pub by_max : Told max_rule p standing figures

-- under the rule the goal figure, where these facts stand, is v
abbrev pub GoalTold : Rule → Problem → List ℕ → ℕ → Type 0
GoalTold rule p standing v = (x : Table) → Solves (equations rule p (these standing)) x → goal_figure rule p x ≡ v

-- every docket from the first figures to the second has n rows
abbrev pub RowsTold : List Figure → List Figure → ℕ → Type 0
RowsTold before after n = (rows : List Row) → Docket before after rows → length rows ≡ n

-- in task A, facts first, then actions
abbrev pub figures_a : List Figure
figures_a = map figure_of (0 ∷ 2 ∷ 4 ∷ 1 ∷ 3 ∷ [])

-- in task C
abbrev pub figures_c : List Figure
figures_c = map figure_of (0 ∷ 2 ∷ 4 ∷ 3 ∷ 5 ∷ 1 ∷ [])

-- with 0 struck facts 1 and 2 no longer hold each other up
abbrev pub figures_c_struck : List Figure
figures_c_struck = None ∷ None ∷ None ∷ None ∷ None ∷ None ∷ []

-- the struck fact, and what rested on it, in the order of the smaller figures
abbrev pub rows_c : List Row
rows_c =
    row 0 (figure_of 0) None ∷ row 5 (figure_of 1) None ∷ row 1 (figure_of 2) None ∷ row 3 (figure_of 3) None ∷ row 2 (figure_of 4) None ∷ row 4 (figure_of 5) None ∷ []

-- in task D
abbrev pub figures_d : List Figure
figures_d = map figure_of (0 ∷ 2 ∷ 0 ∷ 2 ∷ 1 ∷ 1 ∷ 3 ∷ [])

-- with 0 struck fact 1 is reached by way of 3
abbrev pub figures_d_struck : List Figure
figures_d_struck = None ∷ figure_of 4 ∷ figure_of 0 ∷ figure_of 2 ∷ None ∷ figure_of 1 ∷ figure_of 3 ∷ []

-- fact 1 goes 2, none, 4
abbrev pub rows_d : List Row
rows_d = row 0 (figure_of 0) None ∷ row 4 (figure_of 1) None ∷ row 1 (figure_of 2) None ∷ row 1 None (figure_of 4) ∷ []

-- what the definitions make of these tasks
pub record WorkedFigures : Type 0 where
  -- they are lawful, so that every theorem speaks of them
  pub lawful : Lawful task_a × Lawful task_b × Lawful task_c × Lawful task_d
  -- task A: facts 0, 2, 4, actions 1, 3, and goal figure 2 by both rules
  pub table_a : BothTold task_a (0 ∷ []) figures_a
  pub goal_a_additive : GoalTold additive_rule task_a (0 ∷ []) 2
  pub goal_a_max : GoalTold max_rule task_a (0 ∷ []) 2
  -- task B: additive 2, max 1, and the shortest plan has 1 step
  pub goal_b_additive : GoalTold additive_rule task_b (0 ∷ []) 2
  pub goal_b_max : GoalTold max_rule task_b (0 ∷ []) 1
  pub plan_b : Plan task_b (these (0 ∷ [])) (0 ∷ [])
  pub shortest_b : (acts : List ℕ) → Plan task_b (these (0 ∷ [])) acts → 1 ≤ length acts
  -- task C: facts 0, 2, 4, actions 3, 5, 1; with 0 struck all none, and six rows lead there
  pub table_c : BothTold task_c (0 ∷ []) figures_c
  pub table_c_struck : BothTold task_c [] figures_c_struck
  pub docket_c : Docket figures_c figures_c_struck rows_c
  pub six_rows_c : RowsTold figures_c figures_c_struck 6
  -- task D with 0 struck: fact 1 goes 2, none, 4, and there are four rows
  pub table_d : BothTold task_d (0 ∷ 2 ∷ []) figures_d
  pub table_d_struck : BothTold task_d (2 ∷ []) figures_d_struck
  pub docket_d : Docket figures_d figures_d_struck rows_d
  pub four_rows_d : RowsTold figures_d figures_d_struck 4
  -- an empty goal has figure 0, whatever the table
  pub empty_goal : (rule : Rule) → Laws rule → (p : Problem) → p.goal ≡ [] → (x : Table) → goal_figure rule p x ≡ 0
  -- the sum at the ceiling, and above it
  pub at_ceiling : additive_rule (1000000 ∷ 1000000 ∷ []) ≡ 2000000
  pub above_ceiling : additive_rule (1000000 ∷ 1000001 ∷ []) ≡ top
