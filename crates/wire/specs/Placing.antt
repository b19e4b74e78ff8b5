-- Bytes put into the caller's buffer. Assumes nothing.
--
--   Placed    the buffer begins with the bytes, and is else as it was
--   Placing   what putting bytes into a buffer answers and leaves
use Rattle.std.specs.Prelude.{◌≡◌, ℕ, ◌<◌, ◌≤◌, List, ◌++◌, length, drop, Ok, Err, Result}
use Rattle.wire.specs.declared.fault.TooShort.{TooShort}

-- n bytes were put at the beginning of the buffer; those behind them are as they were
pub record Placed (bytes before after : List ℕ) (n : ℕ) : Type 0 where
  pub size : n ≡ length bytes
  pub fits : n ≤ length before
  pub is : after ≡ bytes ++ drop n before

-- all are put there, or they do not fit, and then the buffer is as it was
abbrev pub Placing : List ℕ → List ℕ → List ℕ → Result ℕ TooShort → Type 0
Placing bytes before after (Ok n) = Placed bytes before after n
Placing bytes before after (Err e) = (length before < length bytes) × (after ≡ before)
