use Rattle.model.proofs.Runs.{settling_ends}
use Rattle.model.proofs.figures.settling_ends.Goals as goal

pub returns : goal.returns
returns c = settling_ends
