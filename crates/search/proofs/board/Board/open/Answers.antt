use Rattle.std.proofs.Common.{◌≡◌, length, arith}
use Rattle.strips.specs.Tasks.{problem}
use Rattle.search_law.specs.Boards.{Turning}
use Rattle.search_law.proofs.Opens.{turn_ends}
use Rattle.search.specs.Loans.{held, start}
use Rattle.search.proofs.Leaving.{back}
use Rattle.search.proofs.board.Board.open.Goals as goal

pub successor-requires-clause-turn : goal.successor-requires-clause-turn
successor-requires-clause-turn g c =
    let inv = c.loop-action.invariant in
    back inv.2.same inv.0.turn.base.start (λ p s. Turning p s (held g.Q.Queue.pairs c.loop-action.self) c.args.i c.loop-action.action) inv.0

pub returns-clause-turn : goal.returns-clause-turn
returns-clause-turn g c =
    let x = c.loop-action.self in
    let p = problem c.args.self.now.task.now in
    let end : c.loop-action.action ≡ length p.actions = omega (arith, c.loop-action-test.false, c.loop-action.auto.action-end, c.action_count-action-end.ensures.is) in
    turn_ends p (start c.args.self.now) x.rows.now (g.Q.Queue.pairs x.queue.now) x.used c.args.i c.loop-action.action end c.loop-action.invariant.0
