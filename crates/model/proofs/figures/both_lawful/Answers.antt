use Rattle.model.proofs.Equations.{both_lawful}
use Rattle.model.proofs.figures.both_lawful.Goals as goal

pub returns : goal.returns
returns c = both_lawful
