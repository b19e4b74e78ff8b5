use Rattle.std.proofs.Common.{◌≡◌, ◌+◌, ◌-◌, ◌<◌, ◌≤◌, map, sym, ap, ◌∙◌, arith}
use Rattle.figure.specs.Ranks.{rank, cut}
use Rattle.model.specs.Strips.{action, no_action}
use Rattle.model.specs.Figures.{table, least}
use Rattle.strips.specs.Tasks.{problem}
use Rattle.strips.specs.Actions.{action_of}
use Rattle.strips.specs.Standing.{standing}
use Rattle.session_theory.proofs.Sides.{at_standing, at_added, at_action, at_past, nth_some, nth_none}
use Rattle.settling.proofs.sides.side_of.Goals as goal

pub returns-then-stands : goal.returns-then-stands
returns-then-stands g c = λ l.
    c.of.ensures ∙ sym (at_standing (g.R.CostRule.rule c.args.base.now.rule) (problem c.args.base.now.task) (standing c.args.state.now) (table c.args.figures.now) c.args.item
    (omega (arith, c.if-item-facts.true, c.from-facts.ensures, c.facts.ensures.is)) (sym c.stands.ensures ∙ c.if-stands.true))

pub returns-then-item-facts : goal.returns-then-item-facts
returns-then-item-facts g c = λ l.
    let p = problem c.args.base.now.task in
    let x = table c.args.figures.now in
    let low : c.args.item < p.facts = omega (arith, c.if-item-facts.true, c.from-facts.ensures, c.facts.ensures.is) in
    c.add.ensures ∙ ap (λ n. cut (rank c.least_of.result + n)) c.of-then-item-facts.ensures ∙ ap (λ v. cut (v + 1)) (c.least_of.ensures ∙ ap (least x) (c.adders.ensures ∙ l.adders c.args.item low))
    ∙ sym (at_added (g.R.CostRule.rule c.args.base.now.rule) p (standing c.args.state.now) x c.args.item low (sym c.stands.ensures ∙ c.if-stands.false))

pub returns-in-Some : goal.returns-in-Some
returns-in-Some g c = λ l.
    let p = problem c.args.base.now.task in
    let x = table c.args.figures.now in
    let rule = g.R.CostRule.rule c.args.base.now.rule in
    let q = c.args.item in
    let less : q - c.from-facts.result ≡ q - p.facts = ap (λ n. q - n) (c.from-facts.ensures ∙ c.facts.ensures.is) in
    let high : p.facts ≤ q = omega (arith, c.if-item-facts.false, c.from-facts.ensures, c.facts.ensures.is) in
    let r = nth_some p.actions (q - c.from-facts.result) (action_of c.in-Some.act.now) no_action c.in-Some.ensures in
    let same : c.preconditions.result.now ≡ (action p (q - p.facts)).pre = c.preconditions.ensures ∙ ap (λ z. z.pre) (sym r.1) ∙ ap (λ n. (action p n).pre) less in
    c.add-in-Some.ensures ∙ ap (λ n. cut (rank c.over.result + n)) c.of-in-Some.ensures ∙ ap (λ v. cut (v + 1)) (c.over.ensures ∙ ap (λ ps. rule (map x ps)) same)
    ∙ sym (at_action rule p (standing c.args.state.now) x q high (omega (arith, r.0, less, high)))

pub returns-in-None : goal.returns-in-None
returns-in-None g c = λ l.
    let p = problem c.args.base.now.task in
    let q = c.args.item in
    let less : q - c.from-facts.result ≡ q - p.facts = ap (λ n. q - n) (c.from-facts.ensures ∙ c.facts.ensures.is) in
    sym (at_past (g.R.CostRule.rule c.args.base.now.rule) p (standing c.args.state.now) (table c.args.figures.now) q
    (omega (arith, nth_none p.actions (q - c.from-facts.result) c.in-None.ensures, less, c.if-item-facts.false, c.from-facts.ensures, c.facts.ensures.is)))
