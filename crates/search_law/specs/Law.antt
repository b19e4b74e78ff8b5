-- The law of search: what an answer says, and what it leaves in memory. Assumes nothing.
--
--   used_of, number_of, values_of   how an outcome is told
--   PlanFound     a plan was found: a shortest one
--   NoneFound     there is no plan
--   RowsAreFull   a new state was met and every row is taken
--   Says          what an outcome says
--   LeavesRows    what the rows and the queue are afterwards
--   Law           the whole promise of an outcome
--   Searched      the whole promise of a search
--
-- Agrees says that the estimator agrees with its function v, Sound that the queue is sound.
use Rattle.std.specs.Prelude.{◌≡◌, ℕ, ◌<◌, ◌≤◌, true, false, List, [], ◌∷◌, length, take, drop, replicate, Some, None, Ok, Err, Result, ◌≢◌, slice_index_or}
use Rattle.figure.specs.Ranks.{top}
use Rattle.model.specs.Strips.{State, Problem, Goal, Plan, Reachable}
use Rattle.queue.specs.declared.key.Pair.{Pair}
use Rattle.queue.specs.Keys.{pair_leq}
use Rattle.rows.specs.declared.row.Row.{Row}
use Rattle.rows.specs.Rows.{blank}
use Rattle.search_theory.specs.Estimates.{HasNoPlan, NoneShorter, Enough}
use Rattle.search_theory.specs.Rows.{Rows, Recorded, AllMet, Overflow, Told, Thrifty}
use Rattle.search_law.specs.declared.outcome.Outcome.{Outcome}
use Rattle.search_law.specs.declared.outcome.Outcome.TheVariants.{Plan as Planned, NoPlan, RowsFull}
use Rattle.search_law.specs.declared.refusal.SearchRefusal.{SearchRefusal}
use Rattle.search_law.specs.Views.{view, key_at}
use Rattle.search_law.specs.Refusals.{Memory, Accepted, Refused}

-- the number of rows used
abbrev pub used_of : Outcome → ℕ
used_of (Planned length used) = used
used_of (NoPlan used) = used
used_of (RowsFull used) = used

-- 0 a plan, 1 no plan, 2 rows full
abbrev pub number_of : Outcome → ℕ
number_of (Planned length used) = 0
number_of (NoPlan used) = 1
number_of (RowsFull used) = 2

-- the length of a plan, and the number of rows used
abbrev pub values_of : Outcome → List ℕ
values_of (Planned length used) = length ∷ used ∷ []
values_of (NoPlan used) = used ∷ []
values_of (RowsFull used) = used ∷ []

-- row g has the goal, and was taken before every row that is still to be opened
pub record GoalTaken (p : Problem) (Sound : Type 0) (rows : List Row) (used n g : ℕ) : Type 0 where
  pub within : g < used
  pub goal : Goal p ((view rows used).row g).state
  pub soon : n ≤ ((view rows used).row g).steps
  pub first : Sound → (j : ℕ) (key other : Pair) → j < used → ((view rows used).row j).opened ≡ false → key_at rows g ≡ Some key → key_at rows j ≡ Some other → pair_leq key other ≡ true

-- a plan of n steps is in the step list, and no plan is shorter
pub record PlanFound (p : Problem) (s : State) (Agrees Sound : Type 0) (before after : Memory) (n used : ℕ) : Type 0 where
  pub fits : n ≤ length before.steps
  pub plan : Plan p s (take n after.steps)
  pub shortest : Agrees → Sound → NoneShorter p s n
  pub rest : drop n after.steps ≡ drop n before.steps
  pub taken : (g : ℕ) × GoalTaken p Sound after.rows used n g
  pub met : AllMet p (view after.rows used)

-- every row whose estimate is not none was opened
abbrev pub AllOpened : Rows → Type 0
AllOpened r = (i : ℕ) → i < r.used → (r.row i).estimate < top → (r.row i).opened ≡ true

-- there is no plan; nothing is left to open
pub record NoneFound (p : Problem) (s : State) (Agrees : Type 0) (before after : Memory) (used : ℕ) : Type 0 where
  pub none : Agrees → HasNoPlan p s
  pub opened : AllOpened (view after.rows used)
  pub met : AllMet p (view after.rows used)
  pub steps : after.steps ≡ before.steps

-- every row is taken, and a successor of an opened row has none
pub record RowsAreFull (p : Problem) (before after : Memory) (used : ℕ) : Type 0 where
  pub full : used ≡ length before.rows
  pub new : (i : ℕ) × (a : ℕ) × Overflow p (view after.rows used) i a
  pub steps : after.steps ≡ before.steps

-- what an outcome says
abbrev pub Says : Problem → State → Type 0 → Type 0 → Memory → Memory → Outcome → Type 0
Says p s Agrees Sound before after (Planned n used) = PlanFound p s Agrees Sound before after n used
Says p s Agrees Sound before after (NoPlan used) = NoneFound p s Agrees before after used
Says p s Agrees Sound before after (RowsFull used) = RowsAreFull p before after used

-- the rows in use hold different states that can be reached; rows not in use are as they were; the queue is empty
pub record LeavesRows (p : Problem) (s : State) (v : State → ℕ) (Agrees Sound : Type 0) (before after : Memory) (used : ℕ) : Type 0 where
  pub recorded : Recorded p s (view after.rows used)
  pub reached : (i : ℕ) → i < used → Reachable p s ((view after.rows used).row i).state
  pub told : Agrees → Told v (view after.rows used)
  pub thrifty : Agrees → Sound → Thrifty p s (view after.rows used)
  pub long : length after.rows ≡ length before.rows
  pub fits : used ≤ length before.rows
  pub rest : (k : ℕ) → used ≤ k → slice_index_or after.rows k blank ≡ slice_index_or before.rows k blank
  pub queue : after.queue ≡ replicate (length before.queue) None

-- the whole promise of an outcome; with rows enough it is a plan or no plan
pub record Law (p : Problem) (s : State) (v : State → ℕ) (Agrees Sound : Type 0) (before after : Memory) (o : Outcome) : Type 0 where
  pub says : Says p s Agrees Sound before after o
  pub enough : Enough p s (length before.rows) → number_of o ≢ 2
  pub memory : LeavesRows p s v Agrees Sound before after (used_of o)

-- the whole promise of a search: an outcome, or a refusal that leaves everything as it was
abbrev pub Searched : Problem → State → (State → ℕ) → Type 0 → Type 0 → Type 0 → Memory → Memory → Result Outcome SearchRefusal → Type 0
Searched p s v Suits Agrees Sound before after (Ok o) = Accepted p s Suits before × Law p s v Agrees Sound before after o
Searched p s v Suits Agrees Sound before after (Err e) = Refused p s Suits before e × (after ≡ before)
