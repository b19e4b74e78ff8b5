-- The rows of a best-first search, and what they are between its turns. Assumes nothing.
--
--   Entry      what a row says
--   Rows       the rows by number, and how many are in use
--   Recorded   what the rows in use are, at every moment
--   Met        every successor of a state has a row
--   Overflow   a successor of an opened row has no row
--   Closed     a row is done with
--   Kept       what the rows and the queue are between turns
--   Told       each estimate is the estimator's figure
--   Thrifty    no opened row promises more than a plan has
use Rattle.std.specs.Prelude.{◌≡◌, Bool, true, false, ℕ, ◌+◌, ◌<◌, ◌≤◌}
use Rattle.figure.specs.Ranks.{top}
use Rattle.model.specs.Strips.{State, Problem, May, step, Goal}
use Rattle.search_theory.specs.Estimates.{NoneShorter}

-- a state, its steps from the start, its estimate by rank, the row it came from and the action, and whether it was opened
pub record Entry : Type 0 where
  pub state : State
  pub steps : ℕ
  pub estimate : ℕ
  pub from : ℕ
  pub action : ℕ
  pub opened : Bool

-- the rows by number, of which those below `used` are in use
pub record Rows : Type 0 where
  pub used : ℕ
  pub row : ℕ → Entry

-- row j has the state s
pub record Holds (r : Rows) (s : State) (j : ℕ) : Type 0 where
  pub within : j < r.used
  pub is : (r.row j).state ≡ s

-- the row w came from an opened row, by its action, and says at least one step more
pub record Came (p : Problem) (r : Rows) (w : Entry) : Type 0 where
  pub within : w.from < r.used
  pub less : (r.row w.from).steps + 1 ≤ w.steps
  pub opened : (r.row w.from).opened ≡ true
  pub may : May p w.action (r.row w.from).state
  pub is : step p w.action (r.row w.from).state ≡ w.state

-- the first row is the start; the states differ; each other row came from an opened one; no opened row has the goal
pub record Recorded (p : Problem) (s : State) (r : Rows) : Type 0 where
  pub some : 0 < r.used
  pub start : (r.row 0).state ≡ s
  pub none : (r.row 0).steps ≡ 0
  pub apart : (i j : ℕ) → i < r.used → j < r.used → (r.row i).state ≡ (r.row j).state → i ≡ j
  pub came : (i : ℕ) → 0 < i → i < r.used → Came p r (r.row i)
  pub low : (i : ℕ) → i < r.used → (r.row i).steps < r.used
  pub lacks : (i : ℕ) → i < r.used → (r.row i).opened ≡ true → Goal p (r.row i).state → ⊥

-- every successor of u has a row
abbrev pub Met : Problem → Rows → State → Type 0
Met p r u = (a : ℕ) → May p a u → (j : ℕ) × Holds r (step p a u) j

-- so it is with every opened row
abbrev pub AllMet : Problem → Rows → Type 0
AllMet p r = (i : ℕ) → i < r.used → (r.row i).opened ≡ true → Met p r (r.row i).state

-- row i was opened, and its successor by action a, which may be taken, has no row
pub record Overflow (p : Problem) (r : Rows) (i a : ℕ) : Type 0 where
  pub within : i < r.used
  pub opened : (r.row i).opened ≡ true
  pub may : May p a (r.row i).state
  pub new : (j : ℕ) → j < r.used → (r.row j).state ≡ step p a (r.row i).state → ⊥

-- row j has the state s, in at most n steps
pub record At (r : Rows) (s : State) (n : ℕ) (j : ℕ) : Type 0 where
  pub within : j < r.used
  pub is : (r.row j).state ≡ s
  pub soon : (r.row j).steps ≤ n

-- the row w was opened, lacks the goal, and each of its successors has a row at most one step further
pub record Closed (p : Problem) (r : Rows) (w : Entry) : Type 0 where
  pub opened : w.opened ≡ true
  pub short : Goal p w.state → ⊥
  pub next : (a : ℕ) → May p a w.state → (j : ℕ) × At r (step p a w.state) (w.steps + 1) j

-- which rows are queued
abbrev pub Queued : Type 0
Queued = ℕ → Bool

-- row i is not queued, and its estimate is not why
abbrev pub Shut : Rows → Queued → ℕ → Type 0
Shut r q i = (q i ≡ false) × ((r.row i).estimate < top)

-- what holds between turns: a row that is neither queued nor of estimate none is done with
pub record Kept (p : Problem) (s : State) (r : Rows) (q : Queued) : Type 0 where
  pub base : Recorded p s r
  pub closed : (i : ℕ) → i < r.used → Shut r q i → Closed p r (r.row i)
  pub met : AllMet p r

-- each estimate is the figure that v has for the state
abbrev pub Told : (State → ℕ) → Rows → Type 0
Told v r = (i : ℕ) → i < r.used → (r.row i).estimate ≡ v (r.row i).state

-- no opened row has steps and estimate above the length of any plan
abbrev pub Thrifty : Problem → State → Rows → Type 0
Thrifty p s r = (i : ℕ) → i < r.used → (r.row i).opened ≡ true → NoneShorter p s ((r.row i).steps + (r.row i).estimate)
