use Rattle.search_theory.proofs.Turn.{better}
use Rattle.search_theory.proofs.turn_better.Goals as goal

pub returns : goal.returns
returns c = better
