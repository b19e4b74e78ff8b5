-- What a queue means, and what its calls do. Assumes nothing.
--
-- A queue means a list: at each item's number the item's key, or None where it is not held.
-- The length of the list is the capacity.
--
--   at         the key of an item
--   held       whether an item is held
--   vacant     whether nothing is held
--   count      how many items are held
--   Put        what put answers and leaves
--   Front      what may be taken
--   Taken      what take answers and leaves
--   Smallest   no held key is below the key that was taken
--   Removes    pairs removed one after another
--   Ascends    keys that never fall
--   Drained    what taking all answers and leaves
use Rattle.std.specs.Prelude.{◌≡◌, ℕ, ◌+◌, ◌<◌, ◌≤◌, Bool, true, false, List, [], ◌∷◌, length, replicate, is_some, Some, None, Ok, Err, Option, Result, slice_index_or, slice_set}
use Rattle.queue.specs.declared.refusal.QueueRefusal.{QueueRefusal}
use Rattle.queue.specs.Refusals.{number_of}

module _ {K : Type 0} where
  -- the key of an item; None where it is not held, so also at and above the capacity
  abbrev pub at : List (Option K) → ℕ → Option K
  at t i = slice_index_or t i None

  -- whether an item is held
  abbrev pub held : List (Option K) → ℕ → Bool
  held t i = is_some (at t i)

  -- whether nothing is held
  abbrev pub vacant : List (Option K) → Bool
  vacant [] = true
  vacant (None ∷ t) = vacant t
  vacant (Some k ∷ t) = false

  -- how many items are held
  abbrev pub count : List (Option K) → ℕ
  count [] = 0
  count (None ∷ t) = count t
  count (Some k ∷ t) = 1 + count t

  -- the pair is held, in place of an earlier one of the item; all else is as it was
  pub record Entered (t u : List (Option K)) (item : ℕ) (key : K) : Type 0 where
    pub within : item < length t
    pub after : u ≡ slice_set t item (Some key)

  -- the item is at or above the capacity, which is refusal 8, and the queue is as it was
  pub record Refused {Q : Type 0} (t : List (Option K)) (before after : Q) (item : ℕ) (e : QueueRefusal) : Type 0 where
    pub number : number_of e ≡ 8
    pub beyond : length t ≤ item
    pub same : after ≡ before

  -- what put answers and leaves
  abbrev pub Put : {Q A : Type 0} (pairs : Q → List (Option K)) (before after : Q) (item : ℕ) (key : K) → Result A QueueRefusal → Type 0
  Put pairs before after item key (Ok a) = Entered (pairs before) (pairs after) item key
  Put pairs before after item key (Err e) = Refused (pairs before) before after item e

  -- what may be taken: nothing of an empty queue, else a held pair
  abbrev pub Front : List (Option K) → Option (ℕ × K) → Type 0
  Front t None = vacant t ≡ true
  Front t (Some p) = (p.0 < length t) × (at t p.0 ≡ Some p.1)

  -- what take answers and leaves, from t to u: nothing of an empty queue, else a held pair, which is removed
  abbrev pub Taken : List (Option K) → List (Option K) → Option (ℕ × K) → Type 0
  Taken t u None = (vacant t ≡ true) × (u ≡ t)
  Taken t u (Some p) = (p.0 < length t) × (at t p.0 ≡ Some p.1) × (u ≡ slice_set t p.0 None)

  -- no held key is below the key that was taken
  abbrev pub Smallest : (K → K → Bool) → List (Option K) → Option (ℕ × K) → Type 0
  Smallest leq t None = Unit {0}
  Smallest leq t (Some p) = (i : ℕ) (x : K) → at t i ≡ Some x → leq p.1 x ≡ true

  -- each listed pair is held when its turn to be removed comes, and what is left at last is u
  abbrev pub Removes : List (Option K) → List (ℕ × K) → List (Option K) → Type 0
  Removes t [] u = u ≡ t
  Removes t (p ∷ l) u = (at t p.0 ≡ Some p.1) × Removes (slice_set t p.0 None) l u

  -- no key is above the next
  abbrev pub Ascends : (K → K → Bool) → List (ℕ × K) → Type 0
  Ascends leq [] = Unit {0}
  Ascends leq (p ∷ []) = Unit {0}
  Ascends leq (p ∷ q ∷ l) = (leq p.1 q.1 ≡ true) × Ascends leq (q ∷ l)

  -- the listed pairs are all that were held, and nothing is held any more, at the same capacity
  abbrev pub Drained : List (Option K) → List (ℕ × K) → List (Option K) → Type 0
  Drained t l u = Removes t l u × (u ≡ replicate (length t) None)
