use Rattle.model.proofs.Equations.{one_table}
use Rattle.model.proofs.figures.one_table.Goals as goal

pub returns : goal.returns
returns c = one_table
