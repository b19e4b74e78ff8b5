-- The whole law: sessions and searches, in the words of calls, tables and plans. Assumes nothing.
--
--   Shortest   what a search that was not refused says of plans
--   OwnLaw     the same where the estimator is the session itself
--   WholeLaw   each answer of the session is right for the calls before it, and the search is right about plans
use Rattle.std.specs.Prelude.{◌≡◌, ℕ, ◌≤◌, List, length, take, Ok, Err, Result}
use Rattle.model.specs.Strips.{Problem, State, Plan}
use Rattle.model.specs.Figures.{Rule}
use Rattle.model.specs.Runs.{Call, Reply, fresh, Rights}
use Rattle.search_theory.specs.Estimates.{Enough}
use Rattle.search_law.specs.declared.outcome.Outcome.{Outcome}
use Rattle.search_law.specs.declared.outcome.Outcome.TheVariants.{Plan as Found, NoPlan, RowsFull}
use Rattle.search_law.specs.declared.refusal.SearchRefusal.{SearchRefusal}
use Rattle.search_law.specs.declared.refusal.SearchRefusal.TheVariants.{EstimatorUnfit}
use Rattle.search_law.specs.Law.{Searched}
use Rattle.search_law.specs.Refusals.{Memory}

-- what a search says of plans from s, with so many rows lent and these steps afterwards
abbrev pub Shortest : Problem → State → ℕ → List ℕ → Result Outcome SearchRefusal → Type 0
Shortest p s rows steps (Ok (Found n used)) = Plan p s (take n steps) × ((acts : List ℕ) → Plan p s acts → n ≤ length acts)
Shortest p s rows steps (Ok (NoPlan used)) = (acts : List ℕ) → Plan p s acts → ⊥
Shortest p s rows steps (Ok (RowsFull used)) = Enough p s rows → ⊥
Shortest p s rows steps (Err e) = Unit {0}

-- a session opened on the problem p under a rule gave these replies to these calls; a search on the problem q from s, over an
-- estimator with the function v, ended so. Fits says that the estimator fits q, Agrees that it agrees with v; Opened and Searching
-- that the queues of the session and of the search are sound, as every queue is that was made and handled by its own calls.
pub record WholeLaw (p : Problem) (rule : Rule) (calls : List Call) (replies : List Reply) (q : Problem) (s : State) (v : State → ℕ) (Fits Agrees Opened Searching : Type 0) (before after : Memory) (r : Result Outcome SearchRefusal) : Type 0 where
  -- every answer is right for the calls before it: after each accepted settle the figures are the only table's for the facts
  -- that stand, until they change; and each accepted settle's rows are the docket from the earlier figures to the new
  pub answers : Opened → Rights p rule (fresh p) calls replies
  -- a plan that is answered is a shortest one; no plan is answered only where there is none; with rows enough it is one of the two
  pub plans : Agrees → Searching → Shortest q s (length before.rows) after.steps r
  -- what the search answers in full, when it refuses, and what it leaves in memory
  pub search : Searched q s v Fits Agrees Searching before after r

-- the same where the estimator is the session itself, under the max rule, after these calls: it fits its own task, and agrees
pub record OwnLaw (p : Problem) (rule : Rule) (calls : List Call) (replies : List Reply) (s : State) (Opened Searching : Type 0) (before after : Memory) (r : Result Outcome SearchRefusal) : Type 0 where
  pub answers : Opened → Rights p rule (fresh p) calls replies
  pub plans : Opened → Searching → Shortest p s (length before.rows) after.steps r
  pub fits : (r ≡ Err EstimatorUnfit) → ⊥
