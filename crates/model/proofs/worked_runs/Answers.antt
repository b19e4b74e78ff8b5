use Rattle.model.proofs.WorkedRuns.{worked_runs}
use Rattle.model.proofs.worked_runs.Goals as goal

pub returns : goal.returns
returns c = worked_runs
