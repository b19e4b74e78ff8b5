use Rattle.search_theory.proofs.Turn.{new}
use Rattle.search_theory.proofs.turn_new.Goals as goal

pub returns : goal.returns
returns c = new
