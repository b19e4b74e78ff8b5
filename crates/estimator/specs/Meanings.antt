-- What an estimate leaves of an estimator's meaning. Assumes nothing.
--
--   Leaves   the same tasks and the same function, and agreeing if it agreed
use Rattle.std.specs.Prelude.{◌≡◌, ℕ}
use Rattle.model.specs.Strips.{Problem, State}

-- the estimator after fits the same problems as the one before, has the same function, and agrees if that one did
pub record Leaves {E : Type 0} (suits : E → Problem → Type 0) (value : E → State → ℕ) (agrees : E → Type 0) (before after : E) : Type 0 where
  pub still_fits : (p : Problem) → suits before p → suits after p
  pub fitted : (p : Problem) → suits after p → suits before p
  pub same_value : (s : State) → value after s ≡ value before s
  pub still_agrees : agrees before → agrees after
