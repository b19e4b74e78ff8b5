use Rattle.std.proofs.Common.{◌<◌, length}
use Rattle.heap_theory.specs.Heaps.{Paired, Held, Rising}
use Rattle.heap.specs.Meaning.{RisingAt}
use Rattle.heap.proofs.store.HeapQueue.sift_up.Given as goal

abbrev pub invariant-loop-slot : goal.invariant-loop-slot
invariant-loop-slot g l = record {
  within : l.slot < l.fn.self.size;
  paired : Paired l.slots l.places (length l.keys);
  held : Held l.keys l.slots l.fn.self.size;
  order : RisingAt g.K.Key.leq l.fn.self l.start → Rising g.K.Key.leq l.keys l.slots l.fn.self.size l.slot;
}

abbrev pub decreases-loop-slot : goal.decreases-loop-slot
decreases-loop-slot g l = l.slot
