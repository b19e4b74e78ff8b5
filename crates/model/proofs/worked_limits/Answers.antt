use Rattle.model.proofs.Examples.{limits}
use Rattle.model.proofs.worked_limits.Goals as goal

pub returns : goal.returns
returns c = limits
