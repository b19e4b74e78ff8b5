use Rattle.std.proofs.Common.{◌≡◌, ◌+◌, Bool, ◌++◌, drop, vec_items}
use Rattle.std.specs.Fn.{FnReturnsAt}
use Rattle.model.specs.Strips.{Action}
use Rattle.strips.specs.declared.action.Action.{Action as ActionValue}
use Rattle.strips.specs.Actions.{action_of}
use Rattle.strips.specs.Tasks.{problem}
use Rattle.links.specs.Indexes.{picked}
use Rattle.links.proofs.lists.items_where.Given as goal

abbrev pub invariant-loop-k : goal.invariant-loop-k
invariant-loop-k g l =
    (test : Action → Bool) → ((act : ActionValue) (b : Bool) → FnReturnsAt g.P.Fn l.passes act b → b ≡ test (action_of act)) →
    vec_items l.all ++ picked test ((problem l.task).facts + l.k) (drop l.k (problem l.task).actions) ≡ picked test (problem l.task).facts (problem l.task).actions
