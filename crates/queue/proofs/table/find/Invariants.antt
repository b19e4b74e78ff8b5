use Rattle.queue.specs.Scans.{Found}
use Rattle.queue.proofs.table.find.Given as goal

abbrev pub invariant-loop-item : goal.invariant-loop-item
invariant-loop-item g l = Found g.K.Key.leq l.cells l.item l.best
