use Rattle.std.proofs.Common.{◌-◌, ◌/◌, ◌<◌, ◌≤◌, ◌∙◌, length, sym, subst, arith}
use Rattle.queue.specs.Queues.{at}
use Rattle.heap_theory.specs.Heaps.{Paired, Child, Ordered, slot_key}
use Rattle.heap_theory.proofs.Sifts.{up_step, up_done}
use Rattle.heap_theory.proofs.Swaps.{swapped_map, held_swap, option_trans, option_not}
use Rattle.heap.proofs.Stores.{refilled, owed}
use Rattle.heap.proofs.store.HeapQueue.sift_up.Goals as goal

pub invariant_of-self : goal.invariant_of-self
invariant_of-self g c =
    let inv = c.loop-slot.invariant in
    owed c.args.self.now c.as_slice-keys.ensures.value (c.loop-slot.auto.slots ∙ c.as_mut_slice-slots.ensures.len) (c.loop-slot.auto.places ∙ c.as_mut_slice-places.ensures.len) inv.paired inv.held

pub invariant_of-self-then-in_order : goal.invariant_of-self-then-in_order
invariant_of-self-then-in_order g c =
    let inv = c.loop-slot.invariant in
    owed c.args.self.now c.as_slice-keys.ensures.value (c.loop-slot.auto.slots ∙ c.as_mut_slice-slots.ensures.len) (c.loop-slot.auto.places ∙ c.as_mut_slice-places.ensures.len) inv.paired inv.held

pub returns-then-in_order-clause-order : goal.returns-then-in_order-clause-order
returns-then-in_order-clause-order g c rising =
    let keys = c.as_slice-keys.result.now in
    let p = c.loop-slot.slot in
    let size = c.args.self.now.size in
    let heaped : Ordered g.K.Key.leq keys c.loop-slot.slots size = up_done (slot_key keys c.loop-slot.slots) size p ((p - 1) / 2) (omega arith, omega arith) (sym c.if-in_order.ensures) (c.loop-slot.invariant.order rising) in
    refilled c.args.self.now c.as_slice-keys.ensures.value (c.loop-slot.auto.slots ∙ c.as_mut_slice-slots.ensures.len) (c.loop-slot.auto.places ∙ c.as_mut_slice-places.ensures.len) (λ k s _. Ordered g.K.Key.leq k s size) heaped

pub loop-slot-preserved : goal.loop-slot-preserved
loop-slot-preserved g c =
    let o = g.met.K.Key.orders in
    let p = c.loop-slot.slot in
    let q = (p - 1) / 2 in
    let keys = c.as_slice-keys.result.now in
    let size = c.args.self.now.size in
    let f = slot_key keys c.loop-slot.slots in
    let h = slot_key keys c.exchange.new.slots in
    let inv = c.loop-slot.invariant in
    let swaps = swapped_map (at keys) c.exchange.ensures.swaps in
    let child : Child q p = (omega arith, omega arith) in
    let within : q < size = omega (arith, inv.within) in
    let fits = c.args.self.now.fits in
    record {
      within = within;
      paired = subst (Paired c.exchange.new.slots c.exchange.new.places) inv.paired.slots_long c.exchange.ensures.pairs;
      held = held_swap keys c.loop-slot.slots c.exchange.new.slots size p q swaps inv.within within (subst (λ v. size ≤ length v) (sym c.as_slice-keys.ensures.value) fits) inv.held;
      order = λ rising. up_step (option_trans o) f h size p q child inv.within swaps (option_not o (f q) (f p) (sym c.if-in_order.ensures)) (inv.order rising);
    }

pub returns-clause-order : goal.returns-clause-order
returns-clause-order g c rising =
    let keys = c.as_slice-keys.result.now in
    let size = c.args.self.now.size in
    let heaped : Ordered g.K.Key.leq keys c.loop-slot.slots size = λ i j child below. (c.loop-slot.invariant.order rising).rest i j child below (λ e. omega arith) in
    refilled c.args.self.now c.as_slice-keys.ensures.value (c.loop-slot.auto.slots ∙ c.as_mut_slice-slots.ensures.len) (c.loop-slot.auto.places ∙ c.as_mut_slice-places.ensures.len) (λ k s _. Ordered g.K.Key.leq k s size) heaped
