use Rattle.std.proofs.Common.{ℕ, ◌-◌, ◌<◌, length}
use Rattle.strips.specs.Standing.{standing}
use Rattle.rows.specs.Lookups.{Tree, Way}
use Rattle.rows.proofs.lookup.find.Given as goal

abbrev pub invariant-loop-row : goal.invariant-loop-row
invariant-loop-row l = (used : ℕ) → Tree l.rows used → (l.at < used) × Way l.rows (standing l.state) 0 l.at

abbrev pub decreases-loop-row : goal.decreases-loop-row
decreases-loop-row l = length l.rows - l.at
