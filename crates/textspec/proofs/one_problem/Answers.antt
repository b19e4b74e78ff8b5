use Rattle.textspec.proofs.Theorems.{one_problem}
use Rattle.textspec.proofs.one_problem.Goals as goal

pub returns : goal.returns
returns c = one_problem
