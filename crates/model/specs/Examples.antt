-- Small worked examples. Assumes nothing.
use Rattle.std.specs.Prelude.{◌≡◌, ℕ, List, [], ◌∷◌, replicate}
use Rattle.model.specs.Strips.{Problem, Action, State, Listed, Fits, Lawful, no_action, these, step, after, Plan, Reachable, Stands, Within}
use Rattle.model.specs.Rehearsals.{verdict, blocked, good, refused, reading}

abbrev pub act : List ℕ → List ℕ → List ℕ → Action
act pre add del = record { pre = pre; add = add; del = del }

-- three facts; action 0 leads from 0 to 1, action 1 from 1 to 2, each deleting what it needs
abbrev pub task_a : Problem
task_a = record {
  facts = 3;
  actions = act (0 ∷ []) (1 ∷ []) (0 ∷ []) ∷ act (1 ∷ []) (2 ∷ []) (1 ∷ []) ∷ [];
  goal = 2 ∷ [];
  start = 0 ∷ [];
}

-- one action that adds and deletes the same fact
abbrev pub task_both : Problem
task_both = record { facts = 1; actions = act [] (0 ∷ []) (0 ∷ []) ∷ []; goal = []; start = [] }

-- a problem of so many facts and actions, with nothing in its lists
abbrev pub bare : ℕ → ℕ → Problem
bare facts actions = record { facts = facts; actions = replicate actions no_action; goal = []; start = [] }

abbrev pub sixteen : List ℕ
sixteen = 0 ∷ 1 ∷ 2 ∷ 3 ∷ 4 ∷ 5 ∷ 6 ∷ 7 ∷ 8 ∷ 9 ∷ 10 ∷ 11 ∷ 12 ∷ 13 ∷ 14 ∷ 15 ∷ []

abbrev pub seventeen : List ℕ
seventeen = 0 ∷ 1 ∷ 2 ∷ 3 ∷ 4 ∷ 5 ∷ 6 ∷ 7 ∷ 8 ∷ 9 ∷ 10 ∷ 11 ∷ 12 ∷ 13 ∷ 14 ∷ 15 ∷ 16 ∷ []

-- what is just within the limits of a problem, and what is just beyond
pub record Limits : Type 0 where
  pub largest : Lawful (bare 255 512)
  pub no_facts : Lawful (bare 0 0) → ⊥
  pub facts_256 : Lawful (bare 256 0) → ⊥
  pub actions_513 : Lawful (bare 1 513) → ⊥
  pub lists_16 : Fits 255 (act sixteen sixteen sixteen)
  pub needs_17 : Fits 255 (act seventeen [] []) → ⊥
  pub adds_17 : Fits 255 (act [] seventeen []) → ⊥
  pub deletes_17 : Fits 255 (act [] [] seventeen) → ⊥
  -- a list of the task's last fact, of a fact beyond it, and of a fact twice
  pub last : Listed 3 16 (0 ∷ 2 ∷ [])
  pub beyond : Listed 3 16 (0 ∷ 3 ∷ []) → ⊥
  pub twice : Listed 3 16 (1 ∷ 1 ∷ []) → ⊥
  pub falling : Listed 3 16 (1 ∷ 0 ∷ []) → ⊥

pub record Worked : Type 0 where
  -- [0, 1] is a plan of task A
  pub plan_a : Plan task_a (these task_a.start) (0 ∷ 1 ∷ [])
  -- [1] is blocked at step 0, for want of fact 1
  pub blocked_a : verdict task_a (these task_a.start) (1 ∷ []) ≡ blocked 0 1
  -- an empty goal has the empty plan, in every state
  pub empty_goal : (s : State) → Plan task_both s []
  -- a fact added and deleted stands, whether or not it stood
  pub added_and_deleted : (s : State) → Stands (step task_both 0 s) 0

pub record WorkedVerdicts : Type 0 where
  -- the state after the plan [0, 1] of task A is reachable, and fact 2 stands there
  pub reached_a : Reachable task_a (these task_a.start) (after task_a (these task_a.start) (0 ∷ 1 ∷ []))
  pub far_a : Stands (after task_a (these task_a.start) (0 ∷ 1 ∷ [])) 2
  -- the last fact of three is within a problem of three facts, and the next is not
  pub within_a : Within 3 (these (2 ∷ []))
  pub not_within_a : Within 3 (these (3 ∷ [])) → ⊥
  -- with number and values: [0, 7] fails at step 1, [1] at step 0 for want of fact 1, and after [0] goal fact 2 is missing
  pub told_plan : reading (verdict task_a (these task_a.start) (0 ∷ 1 ∷ [])) ≡ good
  pub told_unknown : reading (verdict task_a (these task_a.start) (0 ∷ 7 ∷ [])) ≡ refused 12 (1 ∷ [])
  pub told_blocked : reading (verdict task_a (these task_a.start) (1 ∷ [])) ≡ refused 13 (0 ∷ 1 ∷ [])
  pub told_missing : reading (verdict task_a (these task_a.start) (0 ∷ [])) ≡ refused 14 (2 ∷ [])
