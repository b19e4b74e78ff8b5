use Rattle.std.proofs.Common.{◌≡◌, ℕ, ◌||◌, drop}
use Rattle.model.specs.Strips.{names}
use Rattle.strips.specs.Standing.{standing}
use Rattle.strips.proofs.state.State.of.Given as goal

abbrev pub invariant-loop-fact : goal.invariant-loop-fact
invariant-loop-fact l = (g : ℕ) → (names (drop l.fact-index l.list) g || standing l.state g) ≡ names l.list g
