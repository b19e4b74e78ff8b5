use Rattle.search_theory.proofs.Turn.{ends}
use Rattle.search_theory.proofs.turn_ends.Goals as goal

pub returns : goal.returns
returns c = ends
