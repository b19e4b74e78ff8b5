use Rattle.search_theory.proofs.Walk.{found}
use Rattle.search_theory.proofs.goal_found.Goals as goal

pub returns : goal.returns
returns c = found
