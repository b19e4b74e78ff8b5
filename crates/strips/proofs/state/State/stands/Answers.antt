use Rattle.std.proofs.Common.{eqb, ap}
use lib.Bits.{and_mask}
use Rattle.strips.specs.Standing.{standing}
use Rattle.strips.proofs.state.State.stands.Goals as goal

pub returns : goal.returns
unfolding standing
returns c = ap (λ n. eqb n 1) (and_mask _ 1)
