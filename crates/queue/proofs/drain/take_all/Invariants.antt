use Rattle.std.proofs.Common.{◌+◌, ◌≤◌, vec_items, vec_len, vec_capacity}
use Rattle.queue.specs.Queues.{count, Removes}
use Rattle.queue.proofs.Drains.{Ahead}
use Rattle.queue.proofs.drain.take_all.Given as goal

abbrev pub invariant-loop-pair : goal.invariant-loop-pair
invariant-loop-pair g l =
    (g.Q.Queue.sound l.initial.queue → g.Q.Queue.sound l.queue)
    × Removes (g.Q.Queue.pairs l.initial.queue) (vec_items l.all) (g.Q.Queue.pairs l.queue)
    × (g.Q.Queue.sound l.initial.queue → Ahead g.Q.Key.Key.leq (vec_items l.all) (g.Q.Queue.pairs l.queue))
    × (vec_len l.all + count (g.Q.Queue.pairs l.queue) ≤ vec_capacity l.all)

abbrev pub decreases-loop-pair : goal.decreases-loop-pair
decreases-loop-pair g l = count (g.Q.Queue.pairs l.queue)
