use Rattle.search_theory.proofs.Walk.{none_left}
use Rattle.search_theory.proofs.none_left.Goals as goal

pub returns : goal.returns
returns c = none_left
