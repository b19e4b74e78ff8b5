use Rattle.textspec.proofs.Theorems.{each_accepted}
use Rattle.textspec.proofs.each_accepted.Goals as goal

pub returns : goal.returns
returns c = each_accepted
