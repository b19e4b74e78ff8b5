-- Why a search ends, though rows may be opened again: a sum that falls with every turn. Assumes nothing.
--
--   weight      a row's part: twice its steps, one more while it is queued; a row not in use weighs more than any in use
--   potential   the sum over n rows
--   FallsTaken, FallsBetter, FallsNew   it falls with every take, every shorter way and every new row
use Rattle.std.specs.Prelude.{◌≡◌, true, false, cond, ℕ, zero, suc, ◌+◌, ◌<◌, ◌≤◌, ltb}
use Rattle.search_theory.specs.Rows.{Rows, Queued}
use Rattle.search_theory.specs.Turns.{Only}

-- steps stay below n, the number of rows
abbrev pub weight : ℕ → Rows → Queued → ℕ → ℕ
weight n r q i = cond (ltb i r.used) ((r.row i).steps + (r.row i).steps + cond (q i) 1 0) (n + n + 2)

-- the sum of w below n
abbrev pub sum_to : (ℕ → ℕ) → ℕ → ℕ
sum_to w zero = 0
sum_to w (suc n) = sum_to w n + w n

-- what falls with each turn, where there are n rows
abbrev pub potential : ℕ → Rows → Queued → ℕ
potential n r q = sum_to (weight n r q) n

-- row i is taken from the queue
abbrev pub FallsTaken : Type 0
FallsTaken =
    (n : ℕ) (r u : Rows) (q v : Queued) (i : ℕ) → r.used ≤ n → i < r.used → Only r u q v i → u.used ≡ r.used →
    (u.row i).steps ≡ (r.row i).steps → q i ≡ true → v i ≡ false → potential n u v < potential n r q

-- row i is reached in fewer steps
abbrev pub FallsBetter : Type 0
FallsBetter =
    (n : ℕ) (r u : Rows) (q v : Queued) (i : ℕ) → r.used ≤ n → i < r.used → Only r u q v i → u.used ≡ r.used →
    (u.row i).steps < (r.row i).steps → potential n u v < potential n r q

-- a row is taken into use
abbrev pub FallsNew : Type 0
FallsNew =
    (n : ℕ) (r u : Rows) (q v : Queued) → r.used < n → Only r u q v r.used → u.used ≡ r.used + 1 →
    (u.row r.used).steps ≤ r.used → potential n u v < potential n r q
