use Rattle.std.proofs.Common.{ap, ◌∙◌}
use Rattle.strips.specs.Standing.{standing}
use Rattle.session.specs.Sessions.{Sound, Entering}
use Rattle.session.proofs.Restanding.{entering, entered_other}
use Rattle.session.proofs.Passing.{enter_goes}
use Rattle.session.proofs.session.Session.enter.Goals as goal

pub returns : goal.returns
returns g c =
    let s = c.args.self.now in
    let t = c.restand.new.self in
    let f = c.args.fact in
    let made = c.insert-changed.ensures in
    let e = c.restand.ensures in
    let keeps : Sound g.R.CostRule.rule g.Q.Queue.sound g.Q.Queue.pairs s → Sound g.R.CostRule.rule g.Q.Queue.sound g.Q.Queue.pairs t =
    e.keeps (λ r o. ap (λ z. z r) made.after ∙ entered_other f (standing s.state) r o) in
    let a : Entering s t f c.restand.result = entering s t c.insert-changed.new.self f c.insert-changed.result c.restand.result made.told made.after e.answer in
    record { answer = a; keeps = keeps; law = enter_goes g.R.CostRule.rule g.Q.Queue.sound g.Q.Queue.pairs s t f keeps c.restand.result a }
