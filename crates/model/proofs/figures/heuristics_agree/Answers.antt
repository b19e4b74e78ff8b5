use Rattle.model.proofs.Doubled.{heuristics}
use Rattle.model.proofs.figures.heuristics_agree.Goals as goal

pub returns : goal.returns
returns c = heuristics
