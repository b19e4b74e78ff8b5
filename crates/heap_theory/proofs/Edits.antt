-- What an added, re-keyed or removed item does to a heap. Assumes nothing.
use Rattle.std.proofs.Common.{◌≡◌, ℕ, ◌+◌, ◌-◌, ◌<◌, ◌≤◌, Bool, true, false, eqb, ltb, List, length, get_or, set, is_some, Some, None, Option, sym, refl, ap, ◌∙◌, subst, arith, length-set, eqb-true}
use borrow.Author.Tests.{eqb-false}
use Rattle.std.proofs.lemmas.Bool.{lt-ltb, ltb-true, ltb-false}
use Rattle.queue.specs.Keys.{Orders}
use Rattle.queue.specs.Queues.{at, held, vacant}
use Rattle.queue.proofs.Tables.{differ, at_within, empty_vacant, not_vacant}
use Rattle.heap_theory.specs.Heaps.{Swapped, Paired, Held, Shape, Ordered, Rising, Unsettled, slot_key, option_leq}
use Rattle.heap_theory.proofs.Swaps.{option_trans, option_refl, swapped_map}
use Rattle.heap_theory.proofs.Resets.{Reset, key_reset, added_held, reset_held, removed_held, added_up, reset_near, removed_near, removed_last, root_least}

module _ {K : Type 0} where
  -- where an item stands, by what is held
  module _ {keys : List (Option K)} {slots places : List ℕ} {size : ℕ} (o : Shape keys slots places size) where
    pub held_at : (item : ℕ) → item < length keys → held keys item ≡ ltb (get_or places item 0) size
    held_at item h = ap (λ v. is_some (at keys v)) (sym (o.paired.place_back item h)) ∙ o.held (get_or places item 0) (o.paired.place_within item h)

    pub free_above : (item : ℕ) → item < length keys → held keys item ≡ false → size ≤ get_or places item 0
    free_above item h e = ltb-false (get_or places item 0) size (sym (held_at item h) ∙ e)

    pub held_below : (item : ℕ) → item < length keys → held keys item ≡ true → get_or places item 0 < size
    held_below item h e = ltb-true (get_or places item 0) size (sym (held_at item h) ∙ e)

    pub none_held : size ≡ 0 → vacant keys ≡ true
    none_held z = empty_vacant keys (λ j. none_of j (at keys j) refl) where
      none_of : (j : ℕ) (v : Option K) → at keys j ≡ v → at keys j ≡ None
      none_of j None e = e
      none_of j (Some x) e =
          let low : get_or places j 0 < size = held_below j (at_within keys j x e) (ap is_some e) in
          absurd (omega arith)

    pub root_within : 0 < size → get_or slots 0 0 < length keys
    root_within h = let fits = o.fits in o.paired.slot_within 0 (omega arith)

    pub root_held : 0 < size → held keys (get_or slots 0 0) ≡ true
    root_held h = let fits = o.fits in o.held 0 (omega arith) ∙ lt-ltb 0 size h

    -- a heap of no items is the one that holds nothing
    pub size_vacant : (b : Bool) → eqb size 0 ≡ b → b ≡ vacant keys
    size_vacant true e = sym (none_held (eqb-true size 0 e))
    size_vacant false e = some_held (at keys (get_or slots 0 0)) refl where
      some_held : (v : Option K) → at keys (get_or slots 0 0) ≡ v → false ≡ vacant keys
      some_held (Some x) q = sym (not_vacant keys (get_or slots 0 0) x q)
      some_held None q =
          let ne : size ≡ 0 → ⊥ = eqb-false size 0 e in
          let z : false ≡ true = sym (ap is_some q) ∙ root_held (omega arith) in
          absurd (differ (sym z))

    -- no held key is below that of the root
    pub root_smallest : {leq : K → K → Bool} → Ordered leq keys slots size → Orders leq → (x : K) → at keys (get_or slots 0 0) ≡ Some x → (j : ℕ) (y : K) → at keys j ≡ Some y → leq x y ≡ true
    root_smallest {leq} ok ord x e j y q =
        let jn : j < length keys = at_within keys j y q in
        let low : get_or places j 0 < size = held_below j jn (ap is_some q) in
        let all = root_least (option_leq leq) (option_trans ord) (option_refl ord) (slot_key keys slots) size ok (get_or places j 0) (get_or places j 0) (omega arith) low in
        subst (λ v. option_leq leq (Some x) v ≡ true) q
        (subst (λ v. option_leq leq (Some x) (at keys v) ≡ true) (o.paired.place_back j jn)
        (subst (λ v. option_leq leq v (slot_key keys slots (get_or places j 0)) ≡ true) e all))

    -- the item stands where it was moved to
    moved_to : (item q : ℕ) (more spots : List ℕ) → item < length keys → q < length keys → Paired more spots (length keys) → Swapped (λ i. get_or slots i 0) (λ i. get_or more i 0) (get_or places item 0) q → get_or spots item 0 ≡ q
    moved_to item q more spots within qn p s =
        ap (λ v. get_or spots v 0) (sym (s.second q refl ∙ o.paired.place_back item within)) ∙ p.slot_back q qn

    -- what an added item leaves to sift up
    pub record Added (leq : K → K → Bool) (more spots : List ℕ) (item : ℕ) (x : K) : Type 0 where
      pub paired : Paired more spots (length (set keys item (Some x)))
      pub held : Held (set keys item (Some x)) more (size + 1)
      pub within : (size < size + 1) × (size + 1 ≤ length (set keys item (Some x)))
      pub nearly : Ordered leq keys slots size → Rising leq (set keys item (Some x)) more (size + 1) size

    pub added : (leq : K → K → Bool) (item : ℕ) (x : K) (more spots : List ℕ) → item < length keys → held keys item ≡ false → Paired more spots (length slots) → Swapped (λ i. get_or slots i 0) (λ i. get_or more i 0) (get_or places item 0) size → Added leq more spots item x
    added leq item x more spots within free p s =
        let sp : size ≤ get_or places item 0 = free_above item within free in
        let pn : get_or places item 0 < length keys = o.paired.place_within item within in
        let sn : size < length keys = omega arith in
        let long : length (set keys item (Some x)) ≡ length keys = length-set keys item (Some x) in
        let paired : Paired more spots (length keys) = subst (Paired more spots) o.paired.slots_long p in
        let t : Reset (slot_key keys more) (slot_key (set keys item (Some x)) more) (length keys) size (Some x) =
        subst (λ q. Reset (slot_key keys more) (slot_key (set keys item (Some x)) more) (length keys) q (Some x)) (moved_to item size more spots within sn paired s) (key_reset keys more spots item (Some x) paired within) in
        let f : Swapped (slot_key keys slots) (slot_key keys more) (get_or places item 0) size = swapped_map (at keys) s in
        record {
          paired = subst (Paired more spots) (sym long) paired;
          held = λ i h. added_held (slot_key keys slots) (slot_key keys more) (slot_key (set keys item (Some x)) more) (length keys) size (get_or places item 0) x o.held f t sp sn i (subst (λ v. i < v) long h);
          within = (omega arith, omega arith);
          nearly = λ ok. added_up (option_leq leq) (slot_key keys slots) (slot_key keys more) (slot_key (set keys item (Some x)) more) (length keys) size (get_or places item 0) (Some x) ok f t sp sn;
        }

    -- what another key leaves to settle
    pub record Rekeyed (leq : K → K → Bool) (item : ℕ) (x : K) : Type 0 where
      pub paired : Paired slots places (length (set keys item (Some x)))
      pub held : Held (set keys item (Some x)) slots size
      pub within : (get_or places item 0 < size) × (size ≤ length (set keys item (Some x)))
      pub nearly : Ordered leq keys slots size → Unsettled leq (set keys item (Some x)) slots size (get_or places item 0)

    pub rekeyed : {leq : K → K → Bool} → Orders leq → (item : ℕ) (x : K) → item < length keys → held keys item ≡ true → Rekeyed leq item x
    rekeyed {leq} ord item x within present =
        let ps : get_or places item 0 < size = held_below item within present in
        let fits = o.fits in
        let long : length (set keys item (Some x)) ≡ length keys = length-set keys item (Some x) in
        let t = key_reset keys slots places item (Some x) o.paired within in
        record {
          paired = subst (Paired slots places) (sym long) o.paired;
          held = λ i h. reset_held (slot_key keys slots) (slot_key (set keys item (Some x)) slots) (length keys) size (get_or places item 0) x o.held t ps i (subst (λ v. i < v) long h);
          within = (ps, omega arith);
          nearly = λ ok. reset_near (option_leq leq) (option_trans ord) (slot_key keys slots) (slot_key (set keys item (Some x)) slots) (length keys) size (get_or places item 0) (Some x) ok t ps fits;
        }

    -- what a removed item leaves to settle
    pub record Removed (leq : K → K → Bool) (more spots : List ℕ) (item : ℕ) : Type 0 where
      pub paired : Paired more spots (length (set keys item None))
      pub held : Held (set keys item None) more (size - 1)
      pub fits : size - 1 ≤ length (set keys item None)
      pub nearly : Ordered leq keys slots size → get_or places item 0 < size - 1 → Unsettled leq (set keys item None) more (size - 1) (get_or places item 0)
      pub heaped : Ordered leq keys slots size → size - 1 ≤ get_or places item 0 → Ordered leq (set keys item None) more (size - 1)

    pub removed : {leq : K → K → Bool} → Orders leq → (item : ℕ) (more spots : List ℕ) → item < length keys → held keys item ≡ true → Paired more spots (length slots) → Swapped (λ i. get_or slots i 0) (λ i. get_or more i 0) (get_or places item 0) (size - 1) → Removed leq more spots item
    removed {leq} ord item more spots within present p s =
        let ps : get_or places item 0 < size = held_below item within present in
        let fits = o.fits in
        let one : size ≡ size - 1 + 1 = omega arith in
        let ln : size - 1 < length keys = omega arith in
        let pl : get_or places item 0 < size - 1 + 1 = omega arith in
        let long : length (set keys item None) ≡ length keys = length-set keys item None in
        let paired : Paired more spots (length keys) = subst (Paired more spots) o.paired.slots_long p in
        let t : Reset (slot_key keys more) (slot_key (set keys item None) more) (length keys) (size - 1) None =
        subst (λ q. Reset (slot_key keys more) (slot_key (set keys item None) more) (length keys) q None) (moved_to item (size - 1) more spots within ln paired s) (key_reset keys more spots item None paired within) in
        let f : Swapped (slot_key keys slots) (slot_key keys more) (get_or places item 0) (size - 1) = swapped_map (at keys) s in
        let old : Ordered leq keys slots size → Ordered leq keys slots (size - 1 + 1) = λ ok. subst (Ordered leq keys slots) one ok in
        let was : Held keys slots (size - 1 + 1) = subst (Held keys slots) one o.held in
        record {
          paired = subst (Paired more spots) (sym long) paired;
          held = λ i h. removed_held (slot_key keys slots) (slot_key keys more) (slot_key (set keys item None) more) (length keys) (size - 1) (get_or places item 0) was f t pl ln i (subst (λ v. i < v) long h);
          fits = omega arith;
          nearly = λ ok h. removed_near (option_leq leq) (option_trans ord) (slot_key keys slots) (slot_key keys more) (slot_key (set keys item None) more) (length keys) (size - 1) (get_or places item 0) None (old ok) f t h ln;
          heaped = λ ok h. removed_last (option_leq leq) (slot_key keys slots) (slot_key keys more) (slot_key (set keys item None) more) (length keys) (size - 1) (get_or places item 0) None (old ok) f t h ln;
        }
