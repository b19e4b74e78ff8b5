-- What a heap means as a queue. Assumes nothing.
--
--   pairs_of    the key of each item, or None
--   key_in      the key of the item in a slot
--   InOrder     no child's key is below its parent's
--   RisingAt    .. but the key in one slot may be below its parent's
--   SinkingAt   .. but the key in one slot may be above its children's
--   LooseAt     .. but the key in one slot may be either
use Rattle.std.specs.Prelude.{ℕ, Bool, List, vec_items, Option}
use Rattle.heap_theory.specs.Heaps.{Ordered, Rising, Sinking, Unsettled, slot_key}
use Rattle.heap.specs.declared.store.HeapQueue.{HeapQueue}

module _ {K : Type 0} where
  -- the key of each item, or None
  abbrev pub pairs_of : HeapQueue K → List (Option K)
  pairs_of h = vec_items h.keys

  -- the key of the item in a slot, or None
  abbrev pub key_in : HeapQueue K → ℕ → Option K
  key_in h slot = slot_key (vec_items h.keys) (vec_items h.slots) slot

  -- no child's key is below its parent's
  abbrev pub InOrder : (K → K → Bool) → HeapQueue K → Type 0
  InOrder leq h = Ordered leq (vec_items h.keys) (vec_items h.slots) h.size

  -- the same, but the key in one slot may be below its parent's, above its children's, or either
  abbrev pub RisingAt : (K → K → Bool) → HeapQueue K → ℕ → Type 0
  RisingAt leq h slot = Rising leq (vec_items h.keys) (vec_items h.slots) h.size slot

  abbrev pub SinkingAt : (K → K → Bool) → HeapQueue K → ℕ → Type 0
  SinkingAt leq h slot = Sinking leq (vec_items h.keys) (vec_items h.slots) h.size slot

  abbrev pub LooseAt : (K → K → Bool) → HeapQueue K → ℕ → Type 0
  LooseAt leq h slot = Unsettled leq (vec_items h.keys) (vec_items h.slots) h.size slot
