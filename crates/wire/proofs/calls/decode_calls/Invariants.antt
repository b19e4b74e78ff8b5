use Rattle.std.proofs.Common.{map, length, vec_items}
use Rattle.session.specs.Works.{call_of}
use Rattle.wire.proofs.Reading.{Read}
use Rattle.wire.proofs.calls.decode_calls.Given as goal

abbrev pub invariant-loop-rest : goal.invariant-loop-rest
invariant-loop-rest l = Read l.bytes (map call_of (vec_items l.calls)) l.rest

abbrev pub decreases-loop-rest : goal.decreases-loop-rest
decreases-loop-rest l = length l.rest
