use Rattle.std.proofs.Common.{◌≡◌, ◌-◌, ◌/◌, true, sym, subst, arith}
use Rattle.heap_theory.specs.Heaps.{Child, option_leq}
use Rattle.heap_theory.proofs.Sifts.{near_up, near_down}
use Rattle.heap_theory.proofs.Swaps.{option_trans, option_not}
use Rattle.heap.specs.Meaning.{SinkingAt, key_in}
use Rattle.heap.proofs.Stores.{compared}
use Rattle.heap.proofs.store.HeapQueue.settle.Goals.{else-slot-gt0-via-then-slot-gt0+else-not-in_order, else-slot-gt0-via-else-slot-gt0}
use Rattle.heap.proofs.store.HeapQueue.settle.Goals as goal

pub returns-then-not-in_order-clause-order : goal.returns-then-not-in_order-clause-order
returns-then-not-in_order-clause-order g c loose =
    let o = g.met.K.Key.orders in
    let old = c.args.self.now in
    let p = c.args.slot in
    let q = (p - 1) / 2 in
    let child : Child q p = (omega arith, omega arith) in
    let above = compared g.K.Key.leq old q p _ c.deref.ensures.value c.deref-then-slot-gt0.ensures.value c.if-not-in_order.ensures in
    c.sift_up.ensures.order (near_up (option_trans o) (key_in old) old.size p q child (option_not o (key_in old q) (key_in old p) above) loose)

pub returns-else-slot-gt0-clause-order : goal.returns-else-slot-gt0-clause-order
returns-else-slot-gt0-clause-order g c loose =
    let leq = g.K.Key.leq in
    let old = c.args.self.now in
    let p = c.args.slot in
    let le = option_leq leq in
    let sinking : ((i : _) → Child i p → le (key_in old i) (key_in old p) ≡ true) → SinkingAt leq old p = λ above. near_down (key_in old) old.size p above loose in
    let start : SinkingAt leq c.else-slot-gt0.self p =
    elim c.else-slot-gt0.branch [
      | else-slot-gt0-via-then-slot-gt0+else-not-in_order w ↦
          let above = compared leq old ((p - 1) / 2) p _ w.deref.ensures.value w.deref-then-slot-gt0.ensures.value w.if-not-in_order.ensures in
          subst (λ h. SinkingAt leq h p) (sym w.self-is) (sinking (λ i child. let e : (p - 1) / 2 ≡ i = omega (arith, child.0, child.1, w.if-slot-gt0.true) in subst (λ v. le (key_in old v) (key_in old p) ≡ true) e above))
      | else-slot-gt0-via-else-slot-gt0 w ↦ subst (λ h. SinkingAt leq h p) (sym w.self-is) (sinking (λ i child. absurd (omega (arith, child.0, w.if-slot-gt0.false))))
    ] in
    c.sift_down.ensures.order start
