-- What a running search keeps: rows, queue and the number of rows in use, between its steps. Assumes nothing.
--
--   Board      the rows, the queue's pairs and the number of rows in use
--   Keyed      only rows in use are queued, and under their keys
--   Standing   what holds between turns
--   Turning    what holds within a turn
--   Overfull   a successor has no row, and every row is taken
--   Moves      what any number of steps leaves
--   Started, Shortened, Added   what recording the start, a shorter way and a new state writes
--   Rooted     each row in use but the first came from one with fewer steps
--   Depth      how many rows a row is away from the first
--   way_back   the actions that lead from the first row to a row
--   Ran        what a search has done when it ends
use Rattle.std.specs.Prelude.{◌≡◌, ℕ, zero, suc, ◌+◌, ◌<◌, ◌≤◌, List, ◌∷◌, length, get_or, Some, None, MatchBool, Option, nat_lt, slice_index_or, slice_set}
use Rattle.figure.specs.declared.figure.Figure.{Figure}
use Rattle.figure.specs.Ranks.{rank}
use Rattle.model.specs.Strips.{State, Problem}
use Rattle.strips.specs.declared.state.State.{State as Words}
use Rattle.strips.specs.Standing.{standing}
use Rattle.queue.specs.declared.key.Pair.{Pair}
use Rattle.queue.specs.Queues.{at}
use Rattle.rows.specs.declared.row.Row.{Row}
use Rattle.rows.specs.Rows.{blank, fresh}
use Rattle.rows.specs.Lookups.{Tree, Hung}
use Rattle.search_theory.specs.Rows.{Rows, Recorded, Overflow, Kept, Told, Thrifty}
use Rattle.search_theory.specs.Turns.{WithinTurn}
use Rattle.search_theory.specs.Measure.{potential}
use Rattle.search_law.specs.declared.outcome.Outcome.{Outcome}
use Rattle.search_law.specs.Views.{view, queued, key_of, key_at}
use Rattle.search_law.specs.Refusals.{Memory}
use Rattle.search_law.specs.Law.{Says, used_of}

pub record Board : Type 0 where
  pub rows : List Row
  pub queue : List (Option Pair)
  pub used : ℕ

abbrev pub board : List Row → List (Option Pair) → ℕ → Board
board rows queue used = record { rows = rows; queue = queue; used = used }

-- the rows of a board as the theory has them
abbrev pub seen : Board → Rows
seen b = view b.rows b.used

-- the item is put under the key, if there is one
abbrev pub enqueued : List (Option Pair) → ℕ → Option Pair → List (Option Pair)
enqueued t i None = t
enqueued t i (Some k) = slice_set t i (Some k)

-- only rows in use are queued, and under their keys
abbrev pub Keyed : Board → Type 0
Keyed b = (i : ℕ) (k : Pair) → at b.queue i ≡ Some k → (i < b.used) × (key_at b.rows i ≡ Some k)

-- states can be looked up, only rows in use are queued, and memory fits
pub record Sized (b : Board) : Type 0 where
  pub tree : Tree b.rows b.used
  pub keyed : Keyed b
  pub space : length b.rows ≤ length b.queue
  pub small : length b.rows ≤ 65535

-- what holds between turns
pub record Standing (p : Problem) (s : State) (b : Board) : Type 0 where
  pub kept : Kept p s (seen b) (queued b.queue)
  pub sized : Sized b

-- what holds within a turn: row i is taken, and the actions below a are done with
pub record Turning (p : Problem) (s : State) (b : Board) (i a : ℕ) : Type 0 where
  pub turn : WithinTurn p s (seen b) (queued b.queue) i a
  pub sized : Sized b

-- every row is taken, and the successor of row i by action a has none
pub record Overfull (p : Problem) (s : State) (b : Board) (i a : ℕ) : Type 0 where
  pub base : Recorded p s (seen b)
  pub full : b.used ≡ length b.rows
  pub over : Overflow p (seen b) i a

-- what any number of steps leaves, whoever estimates; what is told stays so if the estimator agrees
pub record Moves (p : Problem) (s : State) (v : State → ℕ) (Agrees : Type 0) (b c : Board) : Type 0 where
  pub more : b.used ≤ c.used
  pub fits : c.used ≤ length b.rows
  pub long : length c.rows ≡ length b.rows
  pub space : length c.queue ≡ length b.queue
  pub rest : (k : ℕ) → c.used ≤ k → slice_index_or c.rows k blank ≡ slice_index_or b.rows k blank
  pub falls : potential (length b.rows) (seen c) (queued c.queue) ≤ potential (length b.rows) (seen b) (queued b.queue)
  pub thrifty : Thrifty p s (seen b) → Thrifty p s (seen c)
  pub told : Agrees → Told v (seen b) → Told v (seen c)

-- the state of the first row
abbrev pub first : List Row → State
first rows = standing (get_or rows 0 blank).state

-- the row j with a shorter way, by action a from row i
abbrev pub better_row : List Row → ℕ → ℕ → ℕ → Row
better_row rows i a j = record (get_or rows j blank) { steps = (get_or rows i blank).steps + 1; from = i; action = a }

-- a new row, by action a from row i
abbrev pub new_row : List Row → ℕ → ℕ → Words → Figure → Row
new_row rows i a next h = fresh next ((get_or rows i blank).steps + 1) h i a

-- the start state is written in the first row and queued, with the figure that the estimator gave
pub record Started (v : State → ℕ) (Agrees : Type 0) (start : Words) (rows after : List Row) (t u : List (Option Pair)) : Type 0 where
  pub figure : Figure
  pub right : Agrees → rank figure ≡ v (standing start)
  pub rows_are : after ≡ slice_set rows 0 (fresh start 0 figure 0 0)
  pub queue_is : u ≡ enqueued t 0 (key_of 0 figure)

-- a shorter way to row j, by action a from row i, replaces a longer one and queues the row; else nothing is written
abbrev pub Shortened : List Row → List (Option Pair) → ℕ → ℕ → ℕ → List Row → List (Option Pair) → Type 0
Shortened rows t i a j after u =
    MatchBool (nat_lt ((get_or rows i blank).steps + 1) (get_or rows j blank).steps)
    ((after ≡ slice_set rows j (better_row rows i a j)) × (u ≡ enqueued t j (key_of ((get_or rows i blank).steps + 1) (get_or rows j blank).estimate)))
    ((after ≡ rows) × (u ≡ t))

-- the successor is written in a new row and queued, with the figure that the estimator gave
pub record Added (v : State → ℕ) (Agrees : Type 0) (i a under number : ℕ) (next : Words) (rows after : List Row) (t u : List (Option Pair)) : Type 0 where
  pub figure : Figure
  pub right : Agrees → rank figure ≡ v (standing next)
  pub hung : Hung rows under number (new_row rows i a next figure) after
  pub queue_is : u ≡ enqueued t number (key_of ((get_or rows i blank).steps + 1) figure)

-- each row in use but the first came from one in use, with fewer steps
abbrev pub Rooted : List Row → ℕ → Type 0
Rooted rows used = (k : ℕ) → 0 < k → k < used → ((get_or rows k blank).from < used) × ((get_or rows (get_or rows k blank).from blank).steps < (get_or rows k blank).steps)

-- row i is n rows away from the first
abbrev pub Depth : List Row → ℕ → ℕ → Type 0
Depth rows zero i = i ≡ 0
Depth rows (suc n) i = (0 < i) × Depth rows n (get_or rows i blank).from

-- the actions that lead from the first row to row i, which is n rows away, and then the rest
abbrev pub way_back : List Row → ℕ → ℕ → List ℕ → List ℕ
way_back rows zero i rest = rest
way_back rows (suc n) i rest = way_back rows n (get_or rows i blank).from ((get_or rows i blank).action ∷ rest)

-- what a search has done when it ends, before the queue is emptied
pub record Ran (p : Problem) (s : State) (v : State → ℕ) (Agrees Sound : Type 0) (before after : Memory) (o : Outcome) : Type 0 where
  pub says : Says p s Agrees Sound before after o
  pub recorded : Recorded p s (view after.rows (used_of o))
  pub told : Agrees → Told v (view after.rows (used_of o))
  pub thrifty : Agrees → Sound → Thrifty p s (view after.rows (used_of o))
  pub long : length after.rows ≡ length before.rows
  pub fits : used_of o ≤ length before.rows
  pub rest : (k : ℕ) → used_of o ≤ k → slice_index_or after.rows k blank ≡ slice_index_or before.rows k blank
  pub space : length after.queue ≡ length before.queue
