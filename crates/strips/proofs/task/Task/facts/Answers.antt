use Rattle.strips.proofs.Keeping.{lawful}
use Rattle.strips.proofs.task.Task.facts.Goals as goal

pub returns-clause-lawful : goal.returns-clause-lawful
returns-clause-lawful c = lawful c.args.self.now
