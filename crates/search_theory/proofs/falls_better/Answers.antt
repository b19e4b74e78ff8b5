use Rattle.search_theory.proofs.Count.{falls_better}
use Rattle.search_theory.proofs.falls_better.Goals as goal

pub returns : goal.returns
returns c = falls_better
