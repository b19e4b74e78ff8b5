-- Calls of a session in bytes. Assumes nothing.
--
--   call_bytes   a call in bytes
--   Small        the call's number has room in them
--   Writes       the bytes are those of the calls, one after another
--   Begins       the bytes are those of a call and then a rest
--   Unreadable   the bytes begin with those of no call
--   Decoded      what reading bytes as calls answers
use Rattle.std.specs.Prelude.{◌≡◌, ℕ, ◌<◌, List, [], ◌∷◌, ◌++◌, ◌≢◌}
use Rattle.std.specs.List.{flat_map, AllByRecursion}
use Rattle.model.specs.Runs.{Call}
use Rattle.model.specs.Runs.Call.{enter, strike, settle, figure, goal}
use Rattle.wire.specs.Numbers.{two}

-- 1 enter and 2 strike with a fact, 3 settle on so many rows, 4 figure of an item, 5 goal figure
abbrev pub call_bytes : Call → List ℕ
call_bytes (enter f) = 1 ∷ f ∷ []
call_bytes (strike f) = 2 ∷ f ∷ []
call_bytes (settle n) = 3 ∷ two n
call_bytes (figure i) = 4 ∷ two i
call_bytes goal = 5 ∷ []

-- a fact is a byte, rows and items are two bytes
abbrev pub Small : Call → Type 0
Small (enter f) = f < 256
Small (strike f) = f < 256
Small (settle n) = n < 65536
Small (figure i) = i < 65536
Small goal = Unit {0}

-- the bytes are those of the calls, one after another
pub record Writes (bytes : List ℕ) (calls : List Call) : Type 0 where
  pub small : AllByRecursion Small calls
  pub is : bytes ≡ flat_map call_bytes calls

-- the bytes are those of the call, and then the rest
pub record Begins (bytes : List ℕ) (call : Call) (rest : List ℕ) : Type 0 where
  pub small : Small call
  pub is : bytes ≡ call_bytes call ++ rest

-- the bytes begin with those of no call
abbrev pub Unreadable : List ℕ → Type 0
Unreadable bytes = (c : Call) (rest : List ℕ) → Small c → bytes ≢ call_bytes c ++ rest
