use Rattle.std.proofs.Common.{ap, ◌∙◌}
use Rattle.strips.specs.Standing.{standing}
use Rattle.session.specs.Sessions.{Sound, Striking}
use Rattle.session.proofs.Restanding.{striking, struck_other}
use Rattle.session.proofs.Passing.{strike_goes}
use Rattle.session.proofs.session.Session.strike.Goals as goal

pub returns : goal.returns
returns g c =
    let s = c.args.self.now in
    let t = c.restand.new.self in
    let f = c.args.fact in
    let made = c.remove-changed.ensures in
    let e = c.restand.ensures in
    let keeps : Sound g.R.CostRule.rule g.Q.Queue.sound g.Q.Queue.pairs s → Sound g.R.CostRule.rule g.Q.Queue.sound g.Q.Queue.pairs t =
    e.keeps (λ r o. ap (λ z. z r) made.after ∙ struck_other f (standing s.state) r o) in
    let a : Striking s t f c.restand.result = striking s t c.remove-changed.new.self f c.remove-changed.result c.restand.result made.told made.after e.answer in
    record { answer = a; keeps = keeps; law = strike_goes g.R.CostRule.rule g.Q.Queue.sound g.Q.Queue.pairs s t f keeps c.restand.result a }
