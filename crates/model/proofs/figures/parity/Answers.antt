use Rattle.model.proofs.Parities.{parity}
use Rattle.model.proofs.figures.parity.Goals as goal

pub returns : goal.returns
returns c = parity
