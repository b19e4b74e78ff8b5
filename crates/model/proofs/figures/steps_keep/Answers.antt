use Rattle.model.proofs.Runs.{steps_keep}
use Rattle.model.proofs.figures.steps_keep.Goals as goal

pub returns : goal.returns
returns c = steps_keep
