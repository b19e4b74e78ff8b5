use Rattle.std.proofs.Common.{◌≡◌, ◌<◌, length, get_or, Some, None, vec_items, sym, ◌∙◌, subst, arith}
use Rattle.std.proofs.lemmas.List.{get_or_read}
use Rattle.queue.specs.Queues.{at}
use Rattle.queue.proofs.Tables.{not_vacant}
use Rattle.heap_theory.proofs.Edits.{none_held, root_within, root_smallest}
use Rattle.heap.proofs.Stores.{shape_of}
use Rattle.heap.proofs.store.HeapQueue.root.Goals as goal

pub returns-then-self-eq0 : goal.returns-then-self-eq0
returns-then-self-eq0 g c =
    let none = none_held (shape_of c.args.self.now) c.if-self-eq0.true in
    record { found = none; some = none; least = λ ok. tt }

-- the item in the first slot, and its key
first : (g : _) (c : goal.In_ok-key g) → c.index-item.result.now ≡ get_or (vec_items c.args.self.now.slots) 0 0
first g c =
    let v = c.args.self.now in
    let fits = v.fits in
    let long = v.paired.slots_long in
    get_or_read (vec_items v.slots) 0 c.index-item.result.now (omega (arith, c.if-self-eq0.false)) c.index-item.ensures 0

here : (g : _) (c : goal.In_ok-key g) → at (vec_items c.args.self.now.keys) c.index-item.result.now ≡ Some c.in_ok-key.key
here g c =
    let v = c.args.self.now in
    let low : c.index-item.result.now < length (vec_items v.keys) = subst (λ i. i < length (vec_items v.keys)) (sym (first g c)) (root_within (shape_of v) (omega (arith, c.if-self-eq0.false))) in
    sym (get_or_read (vec_items v.keys) c.index-item.result.now c.index.result.now low c.index.ensures None) ∙ c.in_ok-key.was

pub returns-clause-some : goal.returns-clause-some
returns-clause-some g c = not_vacant (vec_items c.args.self.now.keys) c.index-item.result.now c.in_ok-key.key (here g c)

pub returns-clause-least : goal.returns-clause-least
returns-clause-least g c ok =
    let v = c.args.self.now in
    root_smallest (shape_of v) ok g.met.K.Key.orders c.in_ok-key.key (subst (λ i. at (vec_items v.keys) i ≡ Some c.in_ok-key.key) (first g c) (here g c))
