use Rattle.std.proofs.Common.{◌≡◌, length}
use Rattle.queue.specs.Queues.{count}
use Rattle.search.proofs.queueing.empty.Given as goal

abbrev pub invariant-loop : goal.invariant-loop
invariant-loop g l = (g.Q.Queue.sound l.initial.queue → g.Q.Queue.sound l.queue) × (length (g.Q.Queue.pairs l.queue) ≡ length (g.Q.Queue.pairs l.initial.queue))

abbrev pub decreases-loop : goal.decreases-loop
decreases-loop g l = count (g.Q.Queue.pairs l.queue)
