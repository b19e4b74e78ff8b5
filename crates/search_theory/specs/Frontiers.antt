-- What follows of plans from what the rows are. Assumes nothing.
--
--   Ahead      a queued row that promises no more than a plan has
--   Frontier   of each plan some queued row is ahead
--   NoneLeft   where nothing is queued there is no plan
--   Taken      the row that is taken promises no more than any plan has
--   Found      a row that has the goal gives a plan
--   Reached    the state of each row in use can be reached
--   Room       a successor without a row makes one state more than there are rows
use Rattle.std.specs.Prelude.{◌≡◌, true, false, List, ℕ, ◌+◌, ◌<◌, ◌≤◌, length}
use Rattle.model.specs.Strips.{State, Problem, Goal, Plan, Reachable}
use Rattle.search_theory.specs.Estimates.{AdmissibleOn, HasNoPlan, NoneShorter, States}
use Rattle.search_theory.specs.Rows.{Rows, Recorded, Queued, Kept, Told, Overflow}

-- row i is queued, and its steps with its estimate are at most n
pub record Ahead (r : Rows) (q : Queued) (n i : ℕ) : Type 0 where
  pub within : i < r.used
  pub queued : q i ≡ true
  pub least : (r.row i).steps + (r.row i).estimate ≤ n

-- no queued row promises less than row i
abbrev pub Least : Rows → Queued → ℕ → Type 0
Least r q i = (j : ℕ) → j < r.used → q j ≡ true → (r.row i).steps + (r.row i).estimate ≤ (r.row j).steps + (r.row j).estimate

-- of each plan some queued row is ahead
abbrev pub Frontier : Type 0
Frontier =
    (p : Problem) (s : State) (r : Rows) (q : Queued) (v : State → ℕ) → AdmissibleOn p v → Told v r → Kept p s r q →
    (acts : List ℕ) → Plan p s acts → (i : ℕ) × Ahead r q (length acts) i

-- where nothing is queued there is no plan
abbrev pub NoneLeft : Type 0
NoneLeft =
    (p : Problem) (s : State) (r : Rows) (q : Queued) (v : State → ℕ) → AdmissibleOn p v → Told v r → Kept p s r q →
    ((i : ℕ) → i < r.used → q i ≡ false) → HasNoPlan p s

-- the row that is taken promises no more than any plan has
abbrev pub Taken : Type 0
Taken =
    (p : Problem) (s : State) (r : Rows) (q : Queued) (v : State → ℕ) → AdmissibleOn p v → Told v r → Kept p s r q →
    (i : ℕ) → Least r q i → NoneShorter p s ((r.row i).steps + (r.row i).estimate)

-- a row that has the goal gives a plan of at most its steps
abbrev pub Found : Type 0
Found =
    (p : Problem) (s : State) (r : Rows) → Recorded p s r →
    (i : ℕ) → i < r.used → Goal p (r.row i).state → (acts : List ℕ) × (Plan p s acts) × (length acts ≤ (r.row i).steps)

-- the state of each row in use can be reached
abbrev pub Reached : Type 0
Reached = (p : Problem) (s : State) (r : Rows) → Recorded p s r → (i : ℕ) → i < r.used → Reachable p s (r.row i).state

-- a successor without a row makes one state more than there are rows in use
abbrev pub Room : Type 0
Room = (p : Problem) (s : State) (r : Rows) → Recorded p s r → (i a : ℕ) → Overflow p r i a → States p s (r.used + 1)
