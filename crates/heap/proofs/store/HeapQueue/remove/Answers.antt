use Rattle.std.proofs.Common.{◌-◌, ◌<◌, ◌≤◌, None, length, set, sym, ◌∙◌, subst}
use Rattle.std.proofs.lemmas.List.{with_items_is}
use Rattle.heap_theory.specs.Heaps.{Paired, Unsettled, Ordered}
use Rattle.heap_theory.proofs.Edits.{removed}
use Rattle.heap.proofs.Stores.{shape_of, place_read, place_swapped}
use Rattle.heap.proofs.store.HeapQueue.remove.Goals as goal

pub returns-then-slot-last-clause-order : goal.returns-then-slot-last-clause-order
returns-then-slot-last-clause-order g c ok =
    let old = c.args.self.now in
    let item = c.args.item in
    let leq = g.K.Key.leq in
    let slots = c.exchange.new.slots in
    let places = c.exchange.new.places in
    let was = c.deref_mut.ensures.value in
    let paired = subst (λ l. Paired slots places (length l)) was c.exchange.ensures.pairs in
    let here = place_read old c.requires.within c.index-slot.ensures in
    let swaps = place_swapped old item slots was here c.exchange.ensures.swaps in
    let left = removed (shape_of old) g.met.K.Key.orders item slots places c.requires.within c.requires.present paired swaps in
    let loose = left.nearly ok (subst (λ slot. slot < old.size - 1) here c.if-slot-last.true) in
    c.settle.ensures.order (subst (λ l. Unsettled leq (set old.keys.items item None) l (old.size - 1) c.index-slot.result.now) (sym (with_items_is old.slots slots (c.exchange.auto.slots ∙ c.deref_mut.ensures.len)))
    (subst (Unsettled leq (set old.keys.items item None) slots (old.size - 1)) (sym here) loose))

pub returns-else-slot-last-clause-order : goal.returns-else-slot-last-clause-order
returns-else-slot-last-clause-order g c ok =
    let old = c.args.self.now in
    let item = c.args.item in
    let leq = g.K.Key.leq in
    let slots = c.exchange.new.slots in
    let places = c.exchange.new.places in
    let was = c.deref_mut.ensures.value in
    let paired = subst (λ l. Paired slots places (length l)) was c.exchange.ensures.pairs in
    let here = place_read old c.requires.within c.index-slot.ensures in
    let swaps = place_swapped old item slots was here c.exchange.ensures.swaps in
    let left = removed (shape_of old) g.met.K.Key.orders item slots places c.requires.within c.requires.present paired swaps in
    let heaped = left.heaped ok (subst (λ slot. old.size - 1 ≤ slot) here c.if-slot-last.false) in
    subst (λ l. Ordered leq (set old.keys.items item None) l (old.size - 1)) (sym (with_items_is old.slots slots (c.exchange.auto.slots ∙ c.deref_mut.ensures.len))) heaped
