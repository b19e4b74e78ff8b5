-- What a turn of the search keeps: a row is taken and opened, then each of its successors recorded. Assumes nothing.
--
--   WithinTurn   what holds within a turn
--   Only         no row but one changes
--   Takes        a row is taken from the queue and opened
--   Reaches      a row gets the successor of another
--   Starts, Begins, NotTaken, NoBetter, Better, New, Ends   the theorems, in the order of a search
use Rattle.std.specs.Prelude.{◌≡◌, true, false, ℕ, ◌+◌, ◌<◌, length}
use Rattle.model.specs.Strips.{State, Problem, May, step, Goal}
use Rattle.search_theory.specs.Rows.{Entry, Rows, At, Closed, Recorded, Met, Queued, Shut, Kept}

-- row i is taken, and its successors by the actions below a have their rows
pub record WithinTurn (p : Problem) (s : State) (r : Rows) (q : Queued) (i a : ℕ) : Type 0 where
  pub base : Recorded p s r
  pub within : i < r.used
  pub opened : (r.row i).opened ≡ true
  pub short : Goal p (r.row i).state → ⊥
  pub done : (b : ℕ) → b < a → May p b (r.row i).state → (j : ℕ) × At r (step p b (r.row i).state) ((r.row i).steps + 1) j
  pub others : (k : ℕ) → k < r.used → (k ≡ i → ⊥) → Shut r q k → Closed p r (r.row k)
  pub met : (k : ℕ) → k < r.used → (k ≡ i → ⊥) → (r.row k).opened ≡ true → Met p r (r.row k).state

-- from r to u no row but row i changes, nor whether it is queued
pub record Only (r u : Rows) (q v : Queued) (i : ℕ) : Type 0 where
  pub row : (j : ℕ) → (j ≡ i → ⊥) → u.row j ≡ r.row j
  pub queued : (j : ℕ) → (j ≡ i → ⊥) → v j ≡ q j

-- the row with its mark
abbrev pub marked : Entry → Entry
marked w = record { state = w.state; steps = w.steps; estimate = w.estimate; from = w.from; action = w.action; opened = true }

-- row i is taken from the queue and opened
pub record Takes (r u : Rows) (q v : Queued) (i : ℕ) : Type 0 where
  pub only : Only r u q v i
  pub used : u.used ≡ r.used
  pub row : u.row i ≡ marked (r.row i)

-- row j of u has the successor of row i by the action a, and is queued unless its estimate is none
pub record Reaches (p : Problem) (r u : Rows) (q v : Queued) (i a j : ℕ) : Type 0 where
  pub only : Only r u q v j
  pub state : (u.row j).state ≡ step p a (r.row i).state
  pub steps : (u.row j).steps ≡ (r.row i).steps + 1
  pub from : (u.row j).from ≡ i
  pub action : (u.row j).action ≡ a
  pub queued : Shut u v j → ⊥

-- the first row alone
abbrev pub Starts : Type 0
Starts =
    (p : Problem) (s : State) (r : Rows) (q : Queued) → r.used ≡ 1 → (r.row 0).state ≡ s → (r.row 0).steps ≡ 0 → (r.row 0).opened ≡ false →
    (Shut r q 0 → ⊥) → Kept p s r q

-- a row without the goal is taken
abbrev pub Begins : Type 0
Begins =
    (p : Problem) (s : State) (r u : Rows) (q v : Queued) (i : ℕ) → Kept p s r q → i < r.used → (Goal p (r.row i).state → ⊥) →
    Takes r u q v i → WithinTurn p s u v i 0

-- an action may not be taken
abbrev pub NotTaken : Type 0
NotTaken = (p : Problem) (s : State) (r : Rows) (q : Queued) (i a : ℕ) → WithinTurn p s r q i a → (May p a (r.row i).state → ⊥) → WithinTurn p s r q i (a + 1)

-- the successor has a row, in no more steps
abbrev pub NoBetter : Type 0
NoBetter =
    (p : Problem) (s : State) (r : Rows) (q : Queued) (i a j : ℕ) → WithinTurn p s r q i a →
    At r (step p a (r.row i).state) ((r.row i).steps + 1) j → WithinTurn p s r q i (a + 1)

-- the successor has a row, in more steps: the shorter way replaces the longer
abbrev pub Better : Type 0
Better =
    (p : Problem) (s : State) (r u : Rows) (q v : Queued) (i a j : ℕ) →
    WithinTurn p s r q i a →
    May p a (r.row i).state →
    j < r.used →
    (r.row j).state ≡ step p a (r.row i).state →
    (r.row i).steps + 1 < (r.row j).steps →
    u.used ≡ r.used →
    (u.row j).opened ≡ (r.row j).opened →
    Reaches p r u q v i a j →
    WithinTurn p s u v i (a + 1)

-- the successor has no row: the next row is taken into use
abbrev pub New : Type 0
New =
    (p : Problem) (s : State) (r u : Rows) (q v : Queued) (i a : ℕ) →
    WithinTurn p s r q i a →
    May p a (r.row i).state →
    ((j : ℕ) → j < r.used → (r.row j).state ≡ step p a (r.row i).state → ⊥) →
    u.used ≡ r.used + 1 →
    (u.row r.used).opened ≡ false →
    Reaches p r u q v i a r.used →
    WithinTurn p s u v i (a + 1)

-- every action is done with
abbrev pub Ends : Type 0
Ends = (p : Problem) (s : State) (r : Rows) (q : Queued) (i : ℕ) → WithinTurn p s r q i (length p.actions) → Kept p s r q
