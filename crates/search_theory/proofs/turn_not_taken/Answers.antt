use Rattle.search_theory.proofs.Turn.{not_taken}
use Rattle.search_theory.proofs.turn_not_taken.Goals as goal

pub returns : goal.returns
returns c = not_taken
