use Rattle.std.proofs.Common.{Some, set, sym, subst}
use Rattle.heap_theory.specs.Heaps.{Unsettled}
use Rattle.heap_theory.proofs.Edits.{rekeyed}
use Rattle.heap.proofs.Stores.{shape_of, place_read}
use Rattle.heap.proofs.store.HeapQueue.rekey.Goals as goal

pub returns-clause-order : goal.returns-clause-order
returns-clause-order g c ok =
    let old = c.args.self.now in
    let item = c.args.item in
    let loose = (rekeyed (shape_of old) g.met.K.Key.orders item c.args.key c.requires.within c.requires.present).nearly ok in
    c.settle.ensures.order (subst (Unsettled g.K.Key.leq (set old.keys.items item (Some c.args.key)) old.slots.items old.size) (sym (place_read old c.requires.within c.index-slot.ensures)) loose)
