-- What a search says, whatever the estimator and the queues. Assumes nothing.
--
--   InRange      a number of rows that a search takes
--   Searchable   the state is one of the task's, and the rows are in range
--   Planned      a shortest plan, which is the first steps
--   Finds        what an outcome says of plans, and when a search is refused
use Rattle.std.specs.Prelude.{◌≡◌, ℕ, ◌≤◌, List, length, take, Some, Ok, Err, Result}
use Rattle.model.specs.Strips.{Problem, State, Plan, Within}
use Rattle.strips.specs.Members.{FirstFrom}
use Rattle.search_theory.specs.Estimates.{HasNoPlan, NoneShorter, Enough}
use Rattle.search_law.specs.declared.outcome.Outcome.{Outcome}
use Rattle.search_law.specs.declared.outcome.Outcome.TheVariants as outcome
use Rattle.search_law.specs.declared.refusal.SearchRefusal.{SearchRefusal}
use Rattle.search_law.specs.declared.refusal.SearchRefusal.TheVariants.{StateBeyond, QueueUnfit, RowsUnfit, EstimatorUnfit}

-- 1 to 65,535 rows
abbrev pub InRange : ℕ → Type 0
InRange rows = (1 ≤ rows) × (rows ≤ 65535)

-- no fact beyond the task stands, the rows are in range, and no more of them were used
pub record Searchable (p : Problem) (s : State) (rows used : ℕ) : Type 0 where
  pub within : Within p.facts s
  pub range : InRange rows
  pub used_few : used ≤ rows

-- the first n steps are a plan, and no plan has fewer
pub record Planned (p : Problem) (s : State) (rows : ℕ) (steps : List ℕ) (n : ℕ) : Type 0 where
  pub few : n ≤ rows
  pub long : length (take n steps) ≡ n
  pub plan : Plan p s (take n steps)
  pub shortest : NoneShorter p s n

-- what an outcome says of plans from s, with so many rows; a fact beyond the task is refused first, rows out of range second
abbrev pub Finds : Problem → State → ℕ → List ℕ → Result Outcome SearchRefusal → Type 0
Finds p s rows steps (Ok (outcome.Plan n used)) = Searchable p s rows used × Planned p s rows steps n
Finds p s rows steps (Ok (outcome.NoPlan used)) = Searchable p s rows used × HasNoPlan p s
Finds p s rows steps (Ok (outcome.RowsFull used)) = Searchable p s rows used × (used ≡ rows) × (Enough p s rows → ⊥)
Finds p s rows steps (Err (StateBeyond f)) = FirstFrom s p.facts (Some f)
Finds p s rows steps (Err QueueUnfit) = ⊥
Finds p s rows steps (Err RowsUnfit) = Within p.facts s × (InRange rows → ⊥)
Finds p s rows steps (Err EstimatorUnfit) = ⊥
