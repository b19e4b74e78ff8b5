use Rattle.std.proofs.Common.{arith}
use Rattle.strips.proofs.Keeping.{lawful}
use Rattle.planning.proofs.asking.calls_for.Goals as goal

pub overflow_mul-result : goal.overflow_mul-result
overflow_mul-result c =
    let h = lawful c.args.task.now in
    omega (arith, h.few, h.actions_few, c.item_count.ensures)
