use Rattle.strips.proofs.Twins.{same_task}
use Rattle.strips.proofs.task.Task.same.Goals as goal

pub returns : goal.returns
returns c = same_task c.args.self.now c.args.other.now c.eq.result c.eq.ensures
