use Rattle.search_theory.proofs.Count.{falls_new}
use Rattle.search_theory.proofs.falls_new.Goals as goal

pub returns : goal.returns
returns c = falls_new
