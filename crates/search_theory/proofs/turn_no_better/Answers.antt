use Rattle.search_theory.proofs.Turn.{no_better}
use Rattle.search_theory.proofs.turn_no_better.Goals as goal

pub returns : goal.returns
returns c = no_better
