use Rattle.search_theory.proofs.Walk.{taken}
use Rattle.search_theory.proofs.least_taken.Goals as goal

pub returns : goal.returns
returns c = taken
