-- What planning a task answers. Assumes nothing.
--
--   rows          how many states the search may record
--   start_of      the facts that stand at the start
--   GoalTold      a figure is the goal figure of the start under a rule, and so a heuristic's value
--   plan_length   the length of the plan that an outcome tells, 0 without a plan
--   Answered      what an outcome says of plans from the start
--   Used          what the number of rows used says
--   PlannedLaw    the whole promise of planning
use Rattle.std.specs.Prelude.{◌≡◌, ℕ, ◌+◌, ◌≤◌, List, length, vec_items}
use Rattle.figure.specs.declared.figure.Figure.{Figure}
use Rattle.model.specs.Strips.{Problem, State, Plan, these}
use Rattle.model.specs.Figures.{Rule, Table, additive_rule, max_rule, figure_of, equations, Solves, goal_figure}
use Rattle.model.specs.Heuristics.{Value, SetCost, Costs, cut_value, sum_of, largest_of}
use Rattle.search_theory.specs.Estimates.{HasNoPlan, NoneShorter, States}
use Rattle.search_law.specs.declared.outcome.Outcome.{Outcome}
use Rattle.search_law.specs.declared.outcome.Outcome.TheVariants.{Plan as Found, NoPlan, RowsFull}
use Rattle.search_law.specs.Law.{used_of}
use Rattle.planning.specs.declared.planned.Planned.{Planned}

-- how many states the search may record
abbrev pub rows : ℕ
rows = 1024

-- the facts that stand at the start
abbrev pub start_of : Problem → State
start_of p = these p.start

-- the figure is the goal's in the only table of the start under the rule; it is the heuristic's value, cut at the ceiling
pub record GoalTold (rule : Rule) (cost : SetCost) (p : Problem) (figure : Figure) : Type 0 where
  pub table : Table
  pub solves : Solves (equations rule p (start_of p)) table
  pub is : figure ≡ figure_of (goal_figure rule p table)
  pub costs : ℕ → Value
  pub are_costs : Costs cost p (start_of p) costs
  pub is_cost : figure ≡ figure_of (cut_value (cost costs p.goal))

-- the length of the plan, 0 without a plan
abbrev pub plan_length : Outcome → ℕ
plan_length (Found n used) = n
plan_length (NoPlan used) = 0
plan_length (RowsFull used) = 0

-- the steps are a plan from the start, and no plan is shorter; or there is no plan; or every row is used and more states than rows can be reached
abbrev pub Answered : Problem → List ℕ → Outcome → Type 0
Answered p steps (Found n used) = Plan p (start_of p) steps × NoneShorter p (start_of p) n
Answered p steps (NoPlan used) = HasNoPlan p (start_of p)
Answered p steps (RowsFull used) = (used ≡ rows) × States p (start_of p) (rows + 1)

-- rows were used, no more than there are, for as many different states that can be reached
pub record Used (p : Problem) (used : ℕ) : Type 0 where
  pub some : 1 ≤ used
  pub few : used ≤ rows
  pub states : States p (start_of p) used

-- the additive and the max goal figure of the start, and how a search from there ended
pub record PlannedLaw (p : Problem) (w : Planned) : Type 0 where
  pub additive : GoalTold additive_rule sum_of p w.additive
  pub max : GoalTold max_rule largest_of p w.max
  pub answered : Answered p (vec_items w.steps) w.outcome
  pub long : length (vec_items w.steps) ≡ plan_length w.outcome
  pub used : Used p (used_of w.outcome)
