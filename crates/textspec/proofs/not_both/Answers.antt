use Rattle.textspec.proofs.Theorems.{not_both}
use Rattle.textspec.proofs.not_both.Goals as goal

pub returns : goal.returns
returns c = not_both
