use Rattle.model.proofs.Equations.{compares}
use Rattle.model.proofs.figures.compares.Goals as goal

pub returns : goal.returns
returns c = compares
