-- What is kept of earlier asks. Assumes nothing.
--
--   kept     the states kept, the latest first, with their figures
--   Lacks    none of them is the state
--   Placed   the state is kept at a place
--   moved    those kept without the one at a place
--   Asked    what is kept after an ask
--   Right    every kept figure is the function's
--   Agreeing the inner estimator agrees, and what is kept is right
use Rattle.std.specs.Prelude.{◌≡◌, ℕ, suc, ◌<◌, ◌⊎◌, List, ◌∷◌, ◌++◌, length, take, drop, Some, ◌≢◌}
use Rattle.std.specs.List.{AllByRecursion, slice_get}
use Rattle.figure.specs.declared.figure.Figure.{Figure}
use Rattle.figure.specs.Ranks.{rank}
use Rattle.model.specs.Strips.{State as Facts}
use Rattle.strips.specs.declared.state.State.{State}
use Rattle.strips.specs.Standing.{standing}
use Rattle.estimator.specs.declared.keeping.Kept.{Kept}
use Rattle.estimator.specs.declared.keeping.Keeping.{Keeping}

-- the states kept, the latest first, with their figures
abbrev pub kept : {E : Type 0} → Keeping E → List Kept
kept k = k.latest.items

-- a state with its figure
abbrev pub entry : State → Figure → Kept
entry state figure = record { state = state; figure = figure }

-- none of the list is the state s
abbrev pub Lacks : List Kept → Facts → Type 0
Lacks l s = AllByRecursion (λ w. standing w.state ≢ s) l

-- at place i of the list, and at none before, is the state s
pub record Placed (l : List Kept) (s : Facts) (i : ℕ) : Type 0 where
  pub one : Kept
  pub is : slice_get l i ≡ Some one
  pub same : standing one.state ≡ s
  pub first : Lacks (take i l) s

-- the list without the one at place i
abbrev pub moved : List Kept → ℕ → List Kept
moved l i = take i l ++ drop (suc i) l

-- a state that is kept moves to the front, with its figure
pub record Again (before : List Kept) (state : State) (figure : Figure) (after : List Kept) : Type 0 where
  pub at : ℕ
  pub within : at < length before
  pub placed : Placed before (standing state) at
  pub figure_is : placed.one.figure ≡ figure
  pub now_kept : after ≡ placed.one ∷ moved before at

-- a new one comes in front, with the figure that was answered, and pushes out the seventeenth
pub record FirstTime (before : List Kept) (state : State) (figure : Figure) (after : List Kept) : Type 0 where
  pub new : Lacks before (standing state)
  pub now_kept : after ≡ take 16 (entry state figure ∷ before)

-- what is kept after the state was asked, and the figure answered
abbrev pub Asked : List Kept → State → Figure → List Kept → Type 0
Asked before state figure after = Again before state figure after ⊎ FirstTime before state figure after

-- every kept figure is the function's
abbrev pub Right : (Facts → ℕ) → List Kept → Type 0
Right v l = AllByRecursion (λ w. rank w.figure ≡ v (standing w.state)) l

-- the inner estimator agrees, and every kept figure is its function's
pub record Agreeing {E : Type 0} (agrees : E → Type 0) (value : E → Facts → ℕ) (k : Keeping E) : Type 0 where
  pub inner : agrees k.inner
  pub right : Right (value k.inner) (kept k)
