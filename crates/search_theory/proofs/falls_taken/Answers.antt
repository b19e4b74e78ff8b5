use Rattle.search_theory.proofs.Count.{falls_taken}
use Rattle.search_theory.proofs.falls_taken.Goals as goal

pub returns : goal.returns
returns c = falls_taken
