use Rattle.std.proofs.Common.{◌≡◌, map, take, Ok, Err, vec_items, sym, ap, ◌∙◌, subst, arith}
use Rattle.std.proofs.lemmas.List.{with_items_is}
use Rattle.model.specs.Runs.{Reply}
use Rattle.model.specs.Runs.Call.{settle}
use Rattle.model.specs.Runs.Reply.{wrote}
use Rattle.settling.specs.Holding.{row_of}
use Rattle.session.specs.Laws.{Goes}
use Rattle.session.proofs.Passing.{settle_goes}
use Rattle.session.proofs.session.Session.settle_on.Goals as goal

pub returns-in-Ok : goal.returns-in-Ok
returns-in-Ok g c =
    let e = c.in-Ok.ensures in
    let s = c.args.self.now in
    let t = c.settle.new.self in
    let last = c.settle.new.docket in
    let n = c.in-Ok.n in
    let rows : vec_items c.truncate-in-Ok.new.self ≡ take n last =
    c.truncate-in-Ok.ensures.items ∙ ap (take n) (with_items_is c.truncate.new.self last (c.settle.auto.docket ∙ c.deref_mut.ensures.len)) in
    record {
      base = e.answer.base;
      keeps = e.keeps;
      law = λ long.
          subst (λ (y : Reply). Goes g.R.CostRule.rule g.Q.Queue.sound g.Q.Queue.pairs s (settle c.args.rows) y t) (ap (λ l. wrote (map row_of l)) (sym rows))
          (settle_goes g.R.CostRule.rule g.Q.Queue.sound g.Q.Queue.pairs s t e.keeps c.deref_mut.result.now last c.args.rows (Ok n) e.answer e.figures
          (omega (arith, c.deref_mut.ensures.len, c.truncate.ensures.len)) (λ short. omega (arith, short, long, c.deref_mut.ensures.len, c.truncate.ensures.len)));
    }

pub returns-in-Err : goal.returns-in-Err
returns-in-Err g c =
    let e = c.in-Err.ensures in
    record {
      base = ap (λ v. v.base) e.answer.2;
      keeps = e.keeps;
      law = λ long.
          settle_goes g.R.CostRule.rule g.Q.Queue.sound g.Q.Queue.pairs c.args.self.now c.settle.new.self e.keeps c.deref_mut.result.now c.settle.new.docket c.args.rows (Err c.in-Err.fault) e.answer e.figures
          (omega (arith, c.deref_mut.ensures.len, c.truncate.ensures.len)) (λ short. omega (arith, short, long, c.deref_mut.ensures.len, c.truncate.ensures.len));
    }
