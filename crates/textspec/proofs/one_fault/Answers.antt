use Rattle.textspec.proofs.Theorems.{one_fault}
use Rattle.textspec.proofs.one_fault.Goals as goal

pub returns : goal.returns
returns c = one_fault
