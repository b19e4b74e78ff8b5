use Rattle.search_theory.proofs.Turn.{starts}
use Rattle.search_theory.proofs.turn_starts.Goals as goal

pub returns : goal.returns
returns c = starts
