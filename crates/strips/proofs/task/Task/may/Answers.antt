use Rattle.std.proofs.Common.{arith, subst, sym}
use Rattle.std.specs.List.{AllByRecursion}
use Rattle.std.proofs.lemmas.Bool.{false≢true}
use Rattle.std.proofs.lemmas.Bool.Decides.{Decides-like}
use Rattle.model.specs.Strips.{May, Stands}
use Rattle.strips.specs.Standing.{standing}
use Rattle.strips.specs.Lists.{listed}
use Rattle.strips.specs.Actions.{action_of}
use Rattle.strips.specs.Tasks.{problem}
use Rattle.strips.proofs.Keeping.{covers_every, every_covers, known, beyond}
use Rattle.strips.proofs.task.Task.may.Goals as goal

pub returns-in-Some : goal.returns-in-Some
unfolding May
returns-in-Some c =
    let s = standing c.args.state.now in let pre = c.in-Some.action.now.preconditions in
    let k = known (problem c.args.self.now) c.args.action (action_of c.in-Some.action.now) c.in-Some.ensures in
    Decides-like _
    (λ h. (k.0, subst (λ m. AllByRecursion (Stands s) m.pre) (sym k.1) (covers_every s (standing pre.state) (listed pre.list) pre.same h)))
    (λ m. every_covers s (standing pre.state) (listed pre.list) pre.same (subst (λ n. AllByRecursion (Stands s) n.pre) k.1 m.1))
    c.covers.ensures

pub returns-in-None : goal.returns-in-None
unfolding May
returns-in-None c =
    let past = beyond (problem c.args.self.now) c.args.action c.in-None.ensures in
    (λ e. absurd (false≢true e), λ m. absurd (omega (arith, m.0)))
