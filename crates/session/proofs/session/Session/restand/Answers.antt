use Rattle.std.proofs.Common.{eqb, vec_items, sym, refl, ◌∙◌, arith, rules}
use Rattle.std.proofs.lemmas.Bool.{false≢true}
use Rattle.strips.specs.Tasks.{problem}
use Rattle.strips.specs.Standing.{standing}
use Rattle.session.proofs.Restanding.{one_stale, none_stale}
use Rattle.session.proofs.session.Session.restand.Goals as goal

pub returns : goal.returns
returns g c =
    let s = c.args.self.now in
    let k = c.refresh.new.self in
    let rule = g.R.CostRule.rule s.base.rule in
    let p = problem s.base.task in
    let q = c.from.result in
    record {
      answer = (omega (arith, c.if-fact-facts.false, c.facts.ensures.is), search rules, record { base = refl; figures = c.refresh.ensures.held; state = refl; settled = refl });
      keeps = λ same sd. record {
        queue = c.refresh.ensures.keeps sd.queue;
        linked = sd.linked;
        keeping =
            none_stale rule p (standing c.args.state) (vec_items k.figures) (vec_items k.sides) (g.Q.Queue.pairs k.queue) q
            (c.refresh.ensures.after (record { linked = sd.linked; long = s.long }) (λ r. eqb q r)
            (one_stale rule p (standing s.state) (standing c.args.state) (vec_items s.held.figures) (vec_items s.held.sides) (g.Q.Queue.pairs s.held.queue) q (λ r o. same r (λ e. o (e ∙ sym c.from.ensures))) sd.keeping));
        solved = λ e. absurd (false≢true e);
      };
    }
