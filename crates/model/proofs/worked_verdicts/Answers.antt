use Rattle.model.proofs.Examples.{worked_verdicts}
use Rattle.model.proofs.worked_verdicts.Goals as goal

pub returns : goal.returns
returns c = worked_verdicts
