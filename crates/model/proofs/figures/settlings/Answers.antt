use Rattle.model.proofs.Runs.{settlings}
use Rattle.model.proofs.figures.settlings.Goals as goal

pub returns : goal.returns
returns c = settlings
