use Rattle.model.proofs.Rehearsals.{verdicts}
use Rattle.model.proofs.verdicts.Goals as goal

pub returns : goal.returns
returns c = verdicts
