use Rattle.model.proofs.Passing.{fresh_start}
use Rattle.model.proofs.figures.fresh_start.Goals as goal

pub returns : goal.returns
returns c = fresh_start
