-- A heap as its vectors hold it. Assumes nothing.
use Rattle.std.proofs.Common.{◌≡◌, ℕ, zero, suc, ◌<◌, ◌≤◌, Bool, false, List, length, get_or, set, replicate, is_some, Some, None, Option, Vec, vec_items, sym, refl, ap, ◌∙◌, subst, arith, le-ltb}
use lib.ListN.{length-replicate}
use lib.Seq.{set-get_or}
use Rattle.std.proofs.lemmas.List.{with_items_is, get_or_read, get_or-replicate}
use Rattle.std.specs.Vec.{with_items}
use Rattle.heap_theory.specs.Heaps.{Shape, Paired, Swapped, Held, slot_key, option_leq}
use Rattle.queue.specs.Queues.{at, held}
use Rattle.queue.proofs.Tables.{differ}
use Rattle.heap.specs.Meaning.{key_in}
use Rattle.heap.specs.declared.store.HeapQueue.{HeapQueue}

-- what a heap's ghost fields say
abbrev pub Owed : {K : Type 0} → ℕ → List (Option K) → List ℕ → List ℕ → Type 0
Owed size keys slots places = record { fits : size ≤ length keys; paired : Paired slots places (length keys); held : Held keys slots size }

module _ {K : Type 0} (h : HeapQueue K) {keys : List (Option K)} {slots places : List ℕ} (same : keys ≡ vec_items h.keys) (slots_long : length slots ≡ h.slots.len) (places_long : length places ≡ h.places.len) where
  -- what holds of lent slices holds of the heap whose vectors hold them now
  pub refilled : (P : List (Option K) → List ℕ → List ℕ → Type 0) → P keys slots places → P (vec_items h.keys) (with_items h.slots slots).items (with_items h.places places).items
  refilled P p =
      subst (λ v. P v (with_items h.slots slots).items (with_items h.places places).items) same
      (subst (λ v. P keys v (with_items h.places places).items) (sym (with_items_is h.slots slots slots_long))
      (subst (P keys slots) (sym (with_items_is h.places places places_long)) p))

  -- .. so what it owes
  pub owed : Paired slots places (length keys) → Held keys slots h.size → Owed h.size (vec_items h.keys) (with_items h.slots slots).items (with_items h.places places).items
  owed paired held =
      let all : Owed h.size keys slots places = record { fits = subst (λ v. h.size ≤ length v) (sym same) h.fits; paired = paired; held = held } in
      refilled (Owed h.size) all

-- .. and a comparison of keys in lent slices compares the heap's
pub compared : {K : Type 0} (leq : K → K → Bool) (h : HeapQueue K) {keys : List (Option K)} {slots : List ℕ} (a b : ℕ) (r : Bool) → keys ≡ vec_items h.keys → slots ≡ vec_items h.slots → r ≡ option_leq leq (slot_key keys slots a) (slot_key keys slots b) → option_leq leq (key_in h a) (key_in h b) ≡ r
compared leq h {keys} {slots} a b r k s e = sym (subst (λ v. r ≡ option_leq leq (slot_key (vec_items h.keys) v a) (slot_key (vec_items h.keys) v b)) s (subst (λ v. r ≡ option_leq leq (slot_key v slots a) (slot_key v slots b)) k e))

-- each item stands in the slot of its number
pub own_slots : {slots places : List ℕ} {n : ℕ} → length slots ≡ n → ((i : ℕ) → i < n → get_or slots i 0 ≡ i) → length places ≡ n → ((i : ℕ) → i < n → get_or places i 0 ≡ i) → Paired slots places n
own_slots {slots} {places} {n} sl so pl po = record {
  slots_long = sl;
  places_long = pl;
  slot_within = λ k h. subst (λ v. v < n) (sym (so k h)) h;
  slot_back = λ k h. ap (λ v. get_or places v 0) (so k h) ∙ po k h;
  place_within = λ k h. subst (λ v. v < n) (sym (po k h)) h;
  place_back = λ k h. ap (λ v. get_or slots v 0) (po k h) ∙ so k h;
}

module _ {K : Type 0} where
  at_fresh : (n i : ℕ) → at {K = K} (replicate n None) i ≡ None
  at_fresh zero i = refl
  at_fresh (suc n) zero = refl
  at_fresh (suc n) (suc i) = at_fresh n i

  -- nothing is held where no item has a key
  pub fresh_held : {keys : List (Option K)} (slots : List ℕ) (n : ℕ) → keys ≡ replicate n None → Held keys slots 0
  fresh_held slots n e i h = ap (λ t. is_some (slot_key t slots i)) e ∙ ap is_some (at_fresh n (get_or slots i 0)) ∙ sym (le-ltb i 0 (omega arith))

  -- what holds of every heap
  pub shape_of : (h : HeapQueue K) → Shape (vec_items h.keys) (vec_items h.slots) (vec_items h.places) h.size
  shape_of h = record { fits = h.fits; paired = h.paired; held = h.held }

  -- an item's place, as it was read
  pub place_read : (h : HeapQueue K) {item slot : ℕ} → item < length (vec_items h.keys) → slot ≡ get_or (vec_items h.places) item slot → slot ≡ get_or (vec_items h.places) item 0
  place_read h {item} {slot} within e = get_or_read (vec_items h.places) item slot (subst (λ n. item < n) (sym h.paired.places_long) within) e 0

  -- an exchange of that place and another, in lent slots
  pub place_swapped : (h : HeapQueue K) (item : ℕ) (slots : List ℕ) {slot last : ℕ} {lent : List ℕ} → lent ≡ vec_items h.slots → slot ≡ get_or (vec_items h.places) item 0 → Swapped (λ i. get_or lent i 0) (λ i. get_or slots i 0) slot last → Swapped (λ i. get_or (vec_items h.slots) i 0) (λ i. get_or slots i 0) (get_or (vec_items h.places) item 0) last
  place_swapped h item slots {slot} {last} {lent} was here s =
      subst (λ l. Swapped (λ i. get_or l i 0) (λ i. get_or slots i 0) (get_or (vec_items h.places) item 0) last) was (subst (λ p. Swapped (λ i. get_or lent i 0) (λ i. get_or slots i 0) p last) here s)

module _ {K : Type 0} (P : List (Option K) → List ℕ → List ℕ → Type 0) where
  -- what holds of three lists holds of lists that equal them
  pub of_same : {keys ks : List (Option K)} {slots ss places ps : List ℕ} → ks ≡ keys → ss ≡ slots → ps ≡ places → P keys slots places → P ks ss ps
  of_same {keys} {ks} {slots} {ss} {places} {ps} k s p o =
      subst (λ v. P v ss ps) (sym k) (subst (λ v. P keys v ps) (sym s) (subst (λ v. P keys slots v) (sym p) o))

  -- .. and of vectors that were lent as slices and hold them now
  pub of_refilled : {Z : Type 0} (kv : Vec (Option K) Z) (sv pv : Vec ℕ Z) (keys : List (Option K)) (slots places : List ℕ) → length keys ≡ kv.len → length slots ≡ sv.len → length places ≡ pv.len → P keys slots places → P (with_items kv keys).items (with_items sv slots).items (with_items pv places).items
  of_refilled kv sv pv keys slots places k s p o = of_same (with_items_is kv keys k) (with_items_is sv slots s) (with_items_is pv places p) o

module _ {K : Type 0} where
  none_of : (o : Option K) → is_some o ≡ false → o ≡ None
  none_of None e = refl
  none_of (Some x) e = absurd (differ e)

  -- removing what is not held changes nothing
  pub set_none : (t : List (Option K)) (i : ℕ) → held t i ≡ false → t ≡ set t i None
  set_none t i e = sym (ap (set t i) (sym (none_of (at t i) e)) ∙ set-get_or t i None)

  pub root_read : {keys : List (Option K)} {slots places : List ℕ} {size : ℕ} (item : ℕ) → Shape keys slots places size → 0 < size → item ≡ get_or slots 0 item → item ≡ get_or slots 0 0
  root_read {slots = slots} item o h e =
      let fits = o.fits in
      let long = o.paired.slots_long in
      get_or_read slots 0 item (omega arith) e 0

  -- nothing is held, and each item stands at its own number
  pub shape_fresh : (keys : List (Option K)) (slots places : List ℕ) (n : ℕ) → keys ≡ replicate n None → length slots ≡ n → ((k : ℕ) → k < n → get_or slots k 0 ≡ k) → length places ≡ n → ((k : ℕ) → k < n → get_or places k 0 ≡ k) → Shape keys slots places 0
  shape_fresh keys slots places n ks sl ss pl ps =
      let long : length keys ≡ n = ap length ks ∙ length-replicate n None in
      record {
        fits = omega arith;
        paired = subst (Paired slots places) (sym long) (record {
          slots_long = sl;
          places_long = pl;
          slot_within = λ i h. subst (λ v. v < n) (sym (ss i h)) h;
          slot_back = λ i h. ap (λ v. get_or places v 0) (ss i h) ∙ ps i h;
          place_within = λ i h. subst (λ v. v < n) (sym (ps i h)) h;
          place_back = λ i h. ap (λ v. get_or slots v 0) (ps i h) ∙ ss i h;
        });
        held = λ i h.
            let low : i < n = subst (λ v. i < v) long h in
            ap is_some (ap (λ t. at t (get_or slots i 0)) ks ∙ ap (at (replicate n None)) (ss i low) ∙ get_or-replicate n i None None low) ∙ sym (le-ltb i 0 (omega arith));
      }
