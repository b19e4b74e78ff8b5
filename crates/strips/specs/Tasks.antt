-- What a task means, and which parts make one. Assumes nothing.
--
--   problem   the problem that a task states
--   flaw      why parts make no task, if they make none
--   Made      what making a task answers
--   number    a refusal's number
use Rattle.std.specs.Prelude.{◌≡◌, ℕ, ◌+◌, cond, List, [], ◌∷◌, map, length, Some, None, Ok, Err, vec_items, Option, Result, Vec, ◌==◌, nat_lt}
use Rattle.std.specs.declared.alloc.Global.{Global}
use Rattle.model.specs.Strips.{Problem}
use Rattle.strips.specs.declared.action.Action.{Action}
use Rattle.strips.specs.declared.task.Task.{Task}
use Rattle.strips.specs.declared.fault.TaskFault.{TaskFault}
use Rattle.strips.specs.declared.fault.TaskFault.TheVariants.{NoFacts, TooManyActions, InAction, InGoal, InStart}
use Rattle.strips.specs.declared.list.FactList.{FactList}
use Rattle.strips.specs.Lists.{listed}
use Rattle.strips.specs.Actions.{action_of}
use Rattle.strips.specs.Fitting.{below, fits}

abbrev pub problem : Task → Problem
problem t = record { facts = t.facts; actions = map action_of (vec_items t.actions); goal = listed t.goal.list; start = listed t.start }

-- each is a number out of bounds
abbrev pub number : TaskFault → ℕ
number NoFacts = 5
number TooManyActions = 5
number (InAction k) = 5
number InGoal = 5
number InStart = 5

-- the first action, from number k on, that names an unknown fact
abbrev pub first_unfit : ℕ → ℕ → List Action → Option ℕ
first_unfit n k [] = None
first_unfit n k (a ∷ l) = cond (fits n a) (first_unfit n (k + 1) l) (Some k)

abbrev pub in_lists : ℕ → Option ℕ → List ℕ → List ℕ → Option TaskFault
in_lists n (Some k) goal start = Some (InAction k)
in_lists n None goal start = cond (below n goal) (cond (below n start) None (Some InStart)) (Some InGoal)

-- what keeps n facts, these actions, goal and start from being a task
abbrev pub flaw : ℕ → List Action → List ℕ → List ℕ → Option TaskFault
flaw n actions goal start =
    cond (n == 0) (Some NoFacts) (cond (nat_lt 512 (length actions)) (Some TooManyActions) (in_lists n (first_unfit n 0 actions) goal start))

-- a task that states just these parts, or the flaw, with the actions given back
abbrev pub Made : ℕ → Vec Action Global → FactList 255 → FactList 255 → Result Task (TaskFault × Vec Action Global) → Type 0
Made n actions goal start (Ok t) =
    (flaw n (vec_items actions) (listed goal) (listed start) ≡ None)
    × (problem t ≡ record { facts = n; actions = map action_of (vec_items actions); goal = listed goal; start = listed start })
Made n actions goal start (Err e) = (flaw n (vec_items actions) (listed goal) (listed start) ≡ Some e.0) × (e.1 ≡ actions)
