-- The refusals of a search by number. Assumes nothing.
--
--   InTheWay       something stands in the way of a search, under a number and with values
--   SmallestTold   a refusal tells what stands in the way under the smallest number
use Rattle.std.specs.Prelude.{◌≡◌, ℕ, ◌≤◌, Bool, true, List, [], ◌∷◌, Some}
use Rattle.model.specs.Strips.{Problem, State}
use Rattle.strips.specs.Members.{FirstFrom}
use Rattle.search_law.specs.declared.refusal.SearchRefusal.{SearchRefusal}
use Rattle.search_law.specs.Refusals.{Memory, QueueFits, RowsFit, Refused, number_of, values_of}

-- 8: the state has a fact beyond the task, the first of which is f; 11: the queue; 15: rows or steps; 16: the estimator
pub data InTheWay (p : Problem) (s : State) (Suits : Type 0) (m : Memory) : ℕ → List ℕ → Type 0 where
  state : (f : ℕ) → FirstFrom s p.facts (Some f) → InTheWay p s Suits m 8 (f ∷ [])
  queue : (QueueFits m → ⊥) → InTheWay p s Suits m 11 []
  rows : (RowsFit m → ⊥) → InTheWay p s Suits m 15 []
  estimator : (Suits → ⊥) → InTheWay p s Suits m 16 []

-- what the number and the values of a refusal say is in the way, and nothing is under a smaller number; b says whether the estimator fits
pub record ToldFirst (p : Problem) (s : State) (b : Bool) (m : Memory) (n : ℕ) (values : List ℕ) : Type 0 where
  pub so : InTheWay p s (b ≡ true) m n values
  pub first : (k : ℕ) (others : List ℕ) → InTheWay p s (b ≡ true) m k others → n ≤ k

-- so it is with every refusal
abbrev pub SmallestTold : Type 0
SmallestTold =
    (p : Problem) (s : State) (b : Bool) (m : Memory) (e : SearchRefusal) → Refused p s (b ≡ true) m e → ToldFirst p s b m (number_of e) (values_of e)
