use Rattle.std.proofs.Common.{◌+◌, Some, length, set, sym, ◌∙◌, subst}
use Rattle.std.proofs.lemmas.List.{with_items_is}
use Rattle.heap_theory.specs.Heaps.{Paired, Rising}
use Rattle.heap_theory.proofs.Edits.{added}
use Rattle.heap.proofs.Stores.{shape_of, place_read, place_swapped}
use Rattle.heap.proofs.store.HeapQueue.add.Goals as goal

pub returns-clause-order : goal.returns-clause-order
returns-clause-order g c ok =
    let old = c.args.self.now in
    let item = c.args.item in
    let leq = g.K.Key.leq in
    let slots = c.exchange.new.slots in
    let places = c.exchange.new.places in
    let was = c.deref_mut.ensures.value in
    let paired = subst (λ l. Paired slots places (length l)) was c.exchange.ensures.pairs in
    let swaps = place_swapped old item slots was (place_read old c.requires.within c.index-slot.ensures) c.exchange.ensures.swaps in
    let rising = (added (shape_of old) leq item c.args.key slots places c.requires.within c.requires.free paired swaps).nearly ok in
    c.sift_up.ensures.order (subst (λ l. Rising leq (set old.keys.items item (Some c.args.key)) l (old.size + 1) old.size) (sym (with_items_is old.slots slots (c.exchange.auto.slots ∙ c.deref_mut.ensures.len))) rising)
