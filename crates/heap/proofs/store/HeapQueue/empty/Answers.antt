use Rattle.std.proofs.Common.{◌≡◌, replicate, length, None, ap, ◌∙◌, sym, subst, arith, rules}
use lib.ListN.{length-replicate}
use Rattle.heap_theory.specs.Heaps.{Paired}
use Rattle.heap.proofs.Stores.{own_slots, fresh_held}
use Rattle.heap.proofs.store.HeapQueue.empty.Goals as goal

pub invariant_of-result : goal.invariant_of-result
invariant_of-result g c =
    let n = c.args.capacity in
    let keys = c.in_ok-keys.keys.items in
    let none : keys ≡ replicate n None = search rules in
    let slots = c.in_ok-slots.ensures in
    let places = c.in_ok-places.ensures in
    record {
      fits = omega arith;
      paired = subst (Paired c.in_ok-slots.slots.items c.in_ok-places.places.items) (sym (ap length none ∙ length-replicate n None)) (own_slots slots.long slots.own places.long places.own);
      held = fresh_held _ n none;
    }
