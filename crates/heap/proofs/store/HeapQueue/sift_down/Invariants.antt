use Rattle.std.proofs.Common.{◌-◌, ◌<◌, length}
use Rattle.heap_theory.specs.Heaps.{Paired, Held, Sinking}
use Rattle.heap.specs.Meaning.{SinkingAt}
use Rattle.heap.proofs.store.HeapQueue.sift_down.Given as goal

abbrev pub invariant-loop-slot : goal.invariant-loop-slot
invariant-loop-slot g l = record {
  within : l.slot < l.size;
  paired : Paired l.slots l.places (length l.keys);
  held : Held l.keys l.slots l.size;
  order : SinkingAt g.K.Key.leq l.fn.self l.start → Sinking g.K.Key.leq l.keys l.slots l.size l.slot;
}

abbrev pub decreases-loop-slot : goal.decreases-loop-slot
decreases-loop-slot g l = l.size - l.slot
