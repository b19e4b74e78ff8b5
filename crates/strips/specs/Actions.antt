-- What an action means. Assumes nothing.
use Rattle.model.specs.Strips.{Action as Means}
use Rattle.strips.specs.declared.action.Action.{Action}
use Rattle.strips.specs.Lists.{listed}

abbrev pub action_of : Action → Means
action_of a = record { pre = listed a.preconditions.list; add = listed a.adds.list; del = listed a.deletes.list }
