use Rattle.search_theory.proofs.Turn.{begins}
use Rattle.search_theory.proofs.turn_begins.Goals as goal

pub returns : goal.returns
returns c = begins
