use Rattle.figure.proofs.Same.{told_equal}
use Rattle.figure.proofs.values.comparisons.Goals as goal

pub returns-clause-same : goal.returns-clause-same
returns-clause-same c = told_equal
