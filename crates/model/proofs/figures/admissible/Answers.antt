use Rattle.model.proofs.Plans.{admissible}
use Rattle.model.proofs.figures.admissible.Goals as goal

pub returns : goal.returns
returns c = admissible
