use Rattle.search_theory.proofs.Walk.{frontier}
use Rattle.search_theory.proofs.frontier.Goals as goal

pub returns : goal.returns
returns c = frontier
