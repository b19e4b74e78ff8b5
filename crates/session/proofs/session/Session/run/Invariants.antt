use Rattle.std.proofs.Common.{◌≡◌, ◌*◌, ◌≤◌, length, take, drop, vec_items, vec_len, vec_capacity}
use Rattle.model.specs.Strips.{items}
use Rattle.session.specs.Sessions.{task_of, Sound}
use Rattle.session.specs.Rooms.{settles, Stocked}
use Rattle.session.specs.Works.{Working}
use Rattle.session.proofs.session.Session.run.Given as goal

abbrev pub invariant-loop-call : goal.invariant-loop-call
invariant-loop-call g l =
    (vec_len l.answers ≡ l.call-index)
    × (length l.calls ≤ vec_capacity l.answers)
    × (l.self.base ≡ l.initial.self.base)
    × (Sound g.R.CostRule.rule g.Q.Queue.sound g.Q.Queue.pairs l.initial.self → Sound g.R.CostRule.rule g.Q.Queue.sound g.Q.Queue.pairs l.self)
    × Stocked (settles (drop l.call-index l.calls)) (2 * items (task_of l.initial.self)) (vec_items l.dockets)
    × Working g.R.CostRule.rule g.Q.Queue.sound g.Q.Queue.pairs l.initial.self (take l.call-index l.calls) (vec_items l.answers) l.self
