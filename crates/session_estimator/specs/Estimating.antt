-- What a session says as an estimator. Assumes nothing.
--
--   the_table           the only table of a problem and a state under the max rule
--   distance            the goal figure in it
--   Aligned, Followed   what moving one fact, or all, leaves of a session
use Rattle.std.specs.Prelude.{◌≡◌, ℕ, ◌<◌, ◌≤◌, Bool, List, Option, ◌≢◌}
use Rattle.figure.specs.declared.figure.Figure.{Figure}
use Rattle.model.specs.Strips.{Problem, State}
use Rattle.model.specs.Figures.{Rule, Table, max_rule, goal_figure}
use Rattle.model.specs.Runs.{Past, Call, ended}
use Rattle.model.proofs.Equations.{one_table, max_laws}
use Rattle.session.specs.declared.session.Session.{Session}
use Rattle.session.specs.Sessions.{task_of, facts_of, Sound}
use Rattle.session.specs.Laws.{Led}
use Rattle.session_estimator.specs.Followed.{move, moves}

-- the only table that solves the equations, which the theory gives
unfoldable pub the_table : Problem → State → Table
the_table p s = (one_table max_rule max_laws p s).0

-- the max rule's goal figure from a state
abbrev pub distance : Problem → State → ℕ
distance p s = goal_figure max_rule p (the_table p s)

module _ {R Q : Type 0} (result : R → Rule) (queue_sound : Q → Type 0) (pairs : Q → List (Option Figure)) where
  -- calls lead from one session to another: what was sound is, and whatever led to the first leads with the calls to the second
  pub record Leads (s t : Session R Q) (calls : List Call) : Type 0 where
    pub base : t.base ≡ s.base
    pub sound : Sound result queue_sound pairs s → Sound result queue_sound pairs t
    pub led : (past : Past) → Led result queue_sound pairs past s → Led result queue_sound pairs (ended (task_of s) past calls) t

  -- fact f stands as b says, and no other has moved
  pub record Aligned (s t : Session R Q) (f : ℕ) (b : Bool) : Type 0 where
    pub here : facts_of t f ≡ b
    pub other : (g : ℕ) → (g ≢ f) → facts_of t g ≡ facts_of s g
    pub leads : Leads s t (move f (facts_of s f) b)

  -- the first n facts stand as in u, and no other has moved
  pub record Followed (s t : Session R Q) (n : ℕ) (u : State) : Type 0 where
    pub below : (g : ℕ) → g < n → facts_of t g ≡ u g
    pub beyond : (g : ℕ) → n ≤ g → facts_of t g ≡ facts_of s g
    pub leads : Leads s t (moves n (facts_of s) u)
