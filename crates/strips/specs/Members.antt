-- What is said of a set of facts. Assumes nothing.
--
--   Covers      every fact of one state stands in another
--   FirstFrom   the first fact at or beyond a number that stands
use Rattle.std.specs.Prelude.{◌≡◌, ℕ, ◌<◌, ◌≤◌, false, Some, None, Option}
use Rattle.model.specs.Strips.{State, Stands, Within}

abbrev pub Covers : State → State → Type 0
Covers s m = (f : ℕ) → Stands m f → Stands s f

-- nothing stands at or beyond n, or f is the first that does
abbrev pub FirstFrom : State → ℕ → Option ℕ → Type 0
FirstFrom s n None = Within n s
FirstFrom s n (Some f) = (n ≤ f) × Stands s f × ((g : ℕ) → n ≤ g → g < f → s g ≡ false)
