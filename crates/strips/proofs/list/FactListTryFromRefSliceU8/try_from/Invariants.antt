use Rattle.std.proofs.Common.{◌≡◌, take}
use Rattle.strips.specs.Lists.{listed}
use Rattle.strips.proofs.list.FactListTryFromRefSliceU8.try_from.Given as goal

abbrev pub invariant-loop-fact : goal.invariant-loop-fact
invariant-loop-fact g l = listed l.list ≡ take l.fact-index l.facts
