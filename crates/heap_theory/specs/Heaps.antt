-- A binary heap of items over a table of their keys. Assumes nothing.
--
-- Slots hold every item once. The first `size` slots hold the items that have a key, as a heap:
-- the children of slot i are the slots 2 i + 1 and 2 i + 2. Places say in which slot an item stands.
--
--   Child         a slot is a child of another
--   Paired        slots and places are inverse to each other
--   Swapped       what stands at two places, exchanged
--   Heaped        no child is below its parent
--   UpTo          .. but one may be below its parent
--   DownFrom      .. but one may be above its children
--   Near          .. but one may be either
--   slot_key      the key of the item in a slot
--   option_leq    the order of keys, where no key is above every key
--   Shape         what holds of every heap, whatever its order
--   Ordered       its keys are in heap order
use Rattle.std.specs.Prelude.{◌≡◌, ℕ, ◌+◌, ◌*◌, ◌<◌, ◌≤◌, Bool, true, false, List, length, is_some, Some, None, Option, ◌≢◌, nat_lt, slice_index}
use Rattle.queue.specs.Queues.{at}

-- j is a child of i
abbrev pub Child : ℕ → ℕ → Type 0
Child i j = (2 * i + 1 ≤ j) × (j ≤ 2 * i + 2)

-- slots have each item below n once, and places say where
pub record Paired (slots places : List ℕ) (n : ℕ) : Type 0 where
  pub slots_long : length slots ≡ n
  pub places_long : length places ≡ n
  pub slot_within : (i : ℕ) → i < n → slice_index slots i < n
  pub slot_back : (i : ℕ) → i < n → slice_index places (slice_index slots i) ≡ i
  pub place_within : (j : ℕ) → j < n → slice_index places j < n
  pub place_back : (j : ℕ) → j < n → slice_index slots (slice_index places j) ≡ j

-- g is f with what stands at p and at q exchanged
pub record Swapped {X : Type 0} (f g : ℕ → X) (p q : ℕ) : Type 0 where
  pub first : (k : ℕ) → k ≡ p → g k ≡ f q
  pub second : (k : ℕ) → k ≡ q → g k ≡ f p
  pub other : (k : ℕ) → (k ≢ p) → (k ≢ q) → g k ≡ f k

module _ {X : Type 0} (le : X → X → Bool) (f : ℕ → X) (size : ℕ) where
  -- no child is below its parent
  abbrev pub Heaped : Type 0
  Heaped = (i j : ℕ) → Child i j → j < size → le (f i) (f j) ≡ true

  -- what stands at p may be below its parent
  pub record UpTo (p : ℕ) : Type 0 where
    pub rest : (i j : ℕ) → Child i j → j < size → (j ≢ p) → le (f i) (f j) ≡ true
    pub over : (i j : ℕ) → Child i p → Child p j → j < size → le (f i) (f j) ≡ true

  -- what stands at p may be above its children
  pub record DownFrom (p : ℕ) : Type 0 where
    pub rest : (i j : ℕ) → Child i j → j < size → (i ≢ p) → le (f i) (f j) ≡ true
    pub over : (i j : ℕ) → Child i p → Child p j → j < size → le (f i) (f j) ≡ true

  -- what stands at p may be either
  pub record Near (p : ℕ) : Type 0 where
    pub rest : (i j : ℕ) → Child i j → j < size → (i ≢ p) → (j ≢ p) → le (f i) (f j) ≡ true
    pub over : (i j : ℕ) → Child i p → Child p j → j < size → le (f i) (f j) ≡ true

module _ {K : Type 0} where
  -- the key of the item in a slot
  abbrev pub slot_key : List (Option K) → List ℕ → ℕ → Option K
  slot_key keys slots i = at keys (slice_index slots i)

  -- no key is above every key
  abbrev pub option_leq : (K → K → Bool) → Option K → Option K → Bool
  option_leq leq (Some x) (Some y) = leq x y
  option_leq leq (Some x) None = true
  option_leq leq None (Some y) = false
  option_leq leq None None = true

  -- the items with a key stand in the first `size` slots
  abbrev pub Held : List (Option K) → List ℕ → ℕ → Type 0
  Held keys slots size = (i : ℕ) → i < length keys → is_some (slot_key keys slots i) ≡ nat_lt i size

  -- what holds of every heap, whatever its order
  pub record Shape (keys : List (Option K)) (slots places : List ℕ) (size : ℕ) : Type 0 where
    pub fits : size ≤ length keys
    pub paired : Paired slots places (length keys)
    pub held : Held keys slots size

  -- no child's key is below its parent's
  abbrev pub Ordered : (K → K → Bool) → List (Option K) → List ℕ → ℕ → Type 0
  Ordered leq keys slots size = Heaped (option_leq leq) (slot_key keys slots) size

  -- what stands at one place may be below its parent's key, above its children's, or either
  abbrev pub Rising : (K → K → Bool) → List (Option K) → List ℕ → ℕ → ℕ → Type 0
  Rising leq keys slots size p = UpTo (option_leq leq) (slot_key keys slots) size p

  abbrev pub Sinking : (K → K → Bool) → List (Option K) → List ℕ → ℕ → ℕ → Type 0
  Sinking leq keys slots size p = DownFrom (option_leq leq) (slot_key keys slots) size p

  abbrev pub Unsettled : (K → K → Bool) → List (Option K) → List ℕ → ℕ → ℕ → Type 0
  Unsettled leq keys slots size p = Near (option_leq leq) (slot_key keys slots) size p
