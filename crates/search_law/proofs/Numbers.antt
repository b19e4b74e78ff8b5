-- A refusal tells what stands in the way under the smallest number. Assumes nothing.
use Rattle.std.proofs.Common.{◌≡◌, ℕ, ◌≤◌, true, List, Some, sym, ◌∙◌, arith}
use Rattle.std.proofs.lemmas.Bool.{false≢true}
use Rattle.model.specs.Strips.{Problem, State, Within}
use Rattle.strips.specs.Members.{FirstFrom}
use Rattle.search_law.specs.declared.refusal.SearchRefusal.TheVariants.{StateBeyond, QueueUnfit, RowsUnfit, EstimatorUnfit}
use Rattle.search_law.specs.Refusals.{Memory, QueueFits, RowsFit}
use Rattle.search_law.specs.Numbered.{InTheWay, SmallestTold}
use Rattle.search_law.specs.Numbered.InTheWay.{state, queue, rows, estimator}

-- a state within the task has no fact beyond it
none_beyond : (n : ℕ) (s : State) (f : ℕ) → Within n s → FirstFrom s n (Some f) → ⊥
none_beyond n s f w h = false≢true (sym (w f h.0) ∙ h.1)

module _ (p : Problem) (s : State) (Suits : Type 0) (m : Memory) where
  from_8 : (k : ℕ) (l : List ℕ) → InTheWay p s Suits m k l → 8 ≤ k
  from_8 k l (state f h) = omega arith
  from_8 k l (queue h) = omega arith
  from_8 k l (rows h) = omega arith
  from_8 k l (estimator h) = omega arith

  from_11 : Within p.facts s → (k : ℕ) (l : List ℕ) → InTheWay p s Suits m k l → 11 ≤ k
  from_11 w k l (state f h) = absurd (none_beyond p.facts s f w h)
  from_11 w k l (queue h) = omega arith
  from_11 w k l (rows h) = omega arith
  from_11 w k l (estimator h) = omega arith

  from_15 : Within p.facts s → QueueFits m → (k : ℕ) (l : List ℕ) → InTheWay p s Suits m k l → 15 ≤ k
  from_15 w q k l (state f h) = absurd (none_beyond p.facts s f w h)
  from_15 w q k l (queue h) = absurd (h q)
  from_15 w q k l (rows h) = omega arith
  from_15 w q k l (estimator h) = omega arith

  from_16 : Within p.facts s → QueueFits m → RowsFit m → (k : ℕ) (l : List ℕ) → InTheWay p s Suits m k l → 16 ≤ k
  from_16 w q r k l (state f h) = absurd (none_beyond p.facts s f w h)
  from_16 w q r k l (queue h) = absurd (h q)
  from_16 w q r k l (rows h) = absurd (h r)
  from_16 w q r k l (estimator h) = omega arith

pub smallest_told : SmallestTold
smallest_told p s b m (StateBeyond f) h = record { so = state f h; first = from_8 p s (b ≡ true) m }
smallest_told p s b m QueueUnfit h = record { so = queue h.1; first = from_11 p s (b ≡ true) m h.0 }
smallest_told p s b m RowsUnfit h = record { so = rows h.2; first = from_15 p s (b ≡ true) m h.0 h.1 }
smallest_told p s b m EstimatorUnfit h = record { so = estimator h.3; first = from_16 p s (b ≡ true) m h.0 h.1 h.2 }
