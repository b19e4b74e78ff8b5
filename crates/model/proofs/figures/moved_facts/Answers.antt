use Rattle.model.proofs.Equations.{moved}
use Rattle.model.proofs.figures.moved_facts.Goals as goal

pub returns : goal.returns
returns c = moved
