-- What a scan of a table has found. Assumes nothing.
--
--   Found    the best of the first items
--   Better   the better of two
use Rattle.std.specs.Prelude.{◌≡◌, ℕ, ◌<◌, Bool, true, ◌⊎◌, List, Some, None, Option}
use Rattle.queue.specs.Queues.{at}

module _ {K : Type 0} where
  -- a pair with a smallest key of the first n items, if any of them is held
  abbrev pub Found : (K → K → Bool) → List (Option K) → ℕ → Option (ℕ × K) → Type 0
  Found leq t n None = (j : ℕ) → j < n → at t j ≡ None
  Found leq t n (Some p) = (p.0 < n) × (at t p.0 ≡ Some p.1) × ((j : ℕ) → j < n → (x : K) → at t j ≡ Some x → leq p.1 x ≡ true)

  -- of a pair that may be and one that is: one of them, with the smaller key
  abbrev pub Better : (K → K → Bool) → Option (ℕ × K) → ℕ → K → Option (ℕ × K) → Type 0
  Better leq None item key r = r ≡ Some (item, key)
  Better leq (Some p) item key r = ((r ≡ Some p) × (leq p.1 key ≡ true)) ⊎ ((r ≡ Some (item, key)) × (leq key p.1 ≡ true))
