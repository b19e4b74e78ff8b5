-- The first number of which a test holds. Assumes nothing.
use Rattle.std.specs.Prelude.{ℕ, zero, suc, Bool, cond, Some, None, Option}

-- the first answer of two
abbrev pub or_else : Option ℕ → Option ℕ → Option ℕ
or_else (Some x) o = Some x
or_else None o = o

-- the least number below n of which the test holds
abbrev pub first : (ℕ → Bool) → ℕ → Option ℕ
first p zero = None
first p (suc n) = or_else (first p n) (cond (p n) (Some n) None)
