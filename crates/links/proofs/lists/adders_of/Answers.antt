use Rattle.std.proofs.Common.{rules}
use Rattle.strips.specs.Tasks.{problem}
use Rattle.links.proofs.Builds.{adders_picked}
use Rattle.links.proofs.lists.adders_of.Goals as goal

pub returns : goal.returns
returns c = adders_picked (problem c.args.task.now) c.args.fact c.items_where.result (λ act b k. search rules) c.items_where.ensures
