use Rattle.model.proofs.Equations.{local}
use Rattle.model.proofs.figures.local_changes.Goals as goal

pub returns : goal.returns
returns c = local
