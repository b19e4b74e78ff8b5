use Rattle.std.proofs.Common.{length, replicate, None, ap, ◌∙◌, arith, length-set}
use Rattle.queue.specs.Queues.{count}
use Rattle.queue.proofs.Tables.{count_taken, vacant_fresh}
use Rattle.search.proofs.queueing.empty.Goals as goal

pub loop-smaller : goal.loop-smaller
loop-smaller g c =
    let h = c.in-Some.ensures.after in
    let p = c.in-Some.field-0 in
    omega (arith, count_taken (g.Q.Queue.pairs c.loop.queue) p.0 p.1 h.1, ap count h.2)

pub loop-preserved : goal.loop-preserved
loop-preserved g c =
    let h = c.in-Some.ensures in
    (λ s. h.keeps (c.loop.invariant.0 s), ap length h.after.2 ∙ length-set _ _ _ ∙ c.loop.invariant.1)

pub returns : goal.returns
returns g c =
    let h = c.in_default.ensures in
    record { keeps = λ s. h.keeps (c.loop.invariant.0 s); after = h.after.1 ∙ vacant_fresh _ h.after.0 ∙ ap (λ n. replicate n None) c.loop.invariant.1 }
