-- What a search refuses, by number. Assumes nothing.
--
--   Memory               what the calling program lends: rows, a step list, a queue
--   QueueFits, RowsFit   what a search wants of it
--   Accepted             nothing is in the way of a search
--   Refused              a refusal is given, and no smaller number could be
--   number_of            a refusal's number
--   values_of            its values
use Rattle.std.specs.Prelude.{◌≡◌, ℕ, ◌≤◌, true, List, [], ◌∷◌, length, Some, Option}
use Rattle.model.specs.Strips.{State, Problem, Within}
use Rattle.strips.specs.Members.{FirstFrom}
use Rattle.queue.specs.declared.key.Pair.{Pair}
use Rattle.queue.specs.Queues.{vacant}
use Rattle.rows.specs.declared.row.Row.{Row}
use Rattle.search_law.specs.declared.refusal.SearchRefusal.{SearchRefusal}
use Rattle.search_law.specs.declared.refusal.SearchRefusal.TheVariants.{StateBeyond, QueueUnfit, RowsUnfit, EstimatorUnfit}

-- what the calling program lends: rows, a step list, and a queue, by its pairs
pub record Memory : Type 0 where
  pub rows : List Row
  pub steps : List ℕ
  pub queue : List (Option Pair)

abbrev pub memory : List Row → List ℕ → List (Option Pair) → Memory
memory rows steps queue = record { rows = rows; steps = steps; queue = queue }

-- the queue is empty, and has room for every row
pub record QueueFits (m : Memory) : Type 0 where
  pub empty : vacant m.queue ≡ true
  pub space : length m.rows ≤ length m.queue

-- there are 1 to 65,535 rows, and as many steps
pub record RowsFit (m : Memory) : Type 0 where
  pub some : 1 ≤ length m.rows
  pub few : length m.rows ≤ 65535
  pub steps : length m.rows ≤ length m.steps

-- nothing is in the way of a search; Suits says that the estimator fits the problem
pub record Accepted (p : Problem) (s : State) (Suits : Type 0) (m : Memory) : Type 0 where
  pub state : Within p.facts s
  pub queue : QueueFits m
  pub rows : RowsFit m
  pub estimator : Suits

-- what a refusal says: this is in the way, and nothing of a smaller number
abbrev pub Refused : Problem → State → Type 0 → Memory → SearchRefusal → Type 0
Refused p s Suits m (StateBeyond fact) = FirstFrom s p.facts (Some fact)
Refused p s Suits m QueueUnfit = Within p.facts s × (QueueFits m → ⊥)
Refused p s Suits m RowsUnfit = Within p.facts s × QueueFits m × (RowsFit m → ⊥)
Refused p s Suits m EstimatorUnfit = Within p.facts s × QueueFits m × RowsFit m × (Suits → ⊥)

-- 8 a fact beyond the task, 11 the queue, 15 rows or steps, 16 the estimator
abbrev pub number_of : SearchRefusal → ℕ
number_of (StateBeyond fact) = 8
number_of QueueUnfit = 11
number_of RowsUnfit = 15
number_of EstimatorUnfit = 16

-- the fact; the others have no values
abbrev pub values_of : SearchRefusal → List ℕ
values_of (StateBeyond fact) = fact ∷ []
values_of QueueUnfit = []
values_of RowsUnfit = []
values_of EstimatorUnfit = []
