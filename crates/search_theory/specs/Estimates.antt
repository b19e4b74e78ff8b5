-- What an estimator's figures owe, and how plans and states are counted. Assumes nothing.
--
--   AdmissibleOn   figures that never pass a plan's length, and are none only where there is no plan
--   HasNoPlan      there is no plan from a state
--   NoneShorter    no plan from a state has fewer than n steps
--   States         n different states that can be reached
--   Enough         the states that can be reached do not outnumber n
use Rattle.std.specs.Prelude.{◌≡◌, List, ℕ, ◌+◌, ◌<◌, ◌≤◌, length}
use Rattle.model.specs.Strips.{Problem, State, Plan, Reachable}
use Rattle.model.specs.Heuristics.{AtMost}

-- from every state the figure is at most the length of every plan; so it is none only where there is no plan
abbrev pub AdmissibleOn : Problem → (State → ℕ) → Type 0
AdmissibleOn p v = (s : State) (acts : List ℕ) → Plan p s acts → AtMost (v s) (length acts)

-- there is no plan from s
abbrev pub HasNoPlan : Problem → State → Type 0
HasNoPlan p s = (acts : List ℕ) → Plan p s acts → ⊥

-- every plan from s has at least n steps
abbrev pub NoneShorter : Problem → State → ℕ → Type 0
NoneShorter p s n = (acts : List ℕ) → Plan p s acts → n ≤ length acts

-- n different states that can be reached from s
pub record States (p : Problem) (s : State) (n : ℕ) : Type 0 where
  pub state : ℕ → State
  pub apart : (i j : ℕ) → i < n → j < n → state i ≡ state j → i ≡ j
  pub reached : (i : ℕ) → i < n → Reachable p s (state i)

-- the states that can be reached from s do not outnumber n
abbrev pub Enough : Problem → State → ℕ → Type 0
Enough p s n = States p s (n + 1) → ⊥
