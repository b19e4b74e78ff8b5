use Rattle.std.proofs.Common.{sym, ap, ◌∙◌}
use mathlib.Core.Path.{fun_ext}
use Rattle.model.specs.Strips.{step, changed, these, action}
use Rattle.strips.specs.Tasks.{problem}
use Rattle.strips.specs.Standing.{standing}
use Rattle.strips.specs.Actions.{action_of}
use Rattle.strips.proofs.Keeping.{known, beyond, step_past}
use Rattle.strips.proofs.task.Task.after.Goals as goal

pub returns-in-Some : goal.returns-in-Some
unfolding step
returns-in-Some c =
    let s = standing c.args.state.now in let a = c.in-Some.action.now in
    let k = known (problem c.args.self.now) c.args.action (action_of a) c.in-Some.ensures in
    c.change.ensures
    ∙ ap (λ m. changed m (standing a.adds.state) s) (fun_ext a.deletes.same ∙ sym (ap (λ m. these m.del) k.1))
    ∙ ap (λ m. changed (these (action (problem c.args.self.now) c.args.action).del) m s) (fun_ext a.adds.same ∙ sym (ap (λ m. these m.add) k.1))

pub returns-in_default : goal.returns-in_default
returns-in_default c = step_past (problem c.args.self.now) c.args.action (standing c.args.state.now) (beyond (problem c.args.self.now) c.args.action c.in_default.ensures)
