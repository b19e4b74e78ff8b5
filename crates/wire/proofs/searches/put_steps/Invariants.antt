use Rattle.std.proofs.Common.{◌≡◌, ◌++◌, drop, vec_items}
use Rattle.std.specs.List.{flat_map}
use Rattle.wire.specs.Numbers.{two}
use Rattle.wire.proofs.searches.put_steps.Given as goal

abbrev pub invariant-loop-step : goal.invariant-loop-step
invariant-loop-step l = vec_items l.bytes ++ flat_map two (drop l.step-index l.steps) ≡ vec_items l.initial.bytes ++ flat_map two l.steps
