use Rattle.search_theory.proofs.Walk.{reached}
use Rattle.search_theory.proofs.rows_reached.Goals as goal

pub returns : goal.returns
returns c = reached
