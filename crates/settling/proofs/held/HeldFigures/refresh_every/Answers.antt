use Rattle.std.proofs.Common.{◌+◌, true, leb, vec_items, vec_len, refl, ap, ◌∙◌, arith}
use Rattle.std.proofs.lemmas.Bool.{le-leb}
use Rattle.model.specs.Strips.{struck}
use Rattle.model.specs.Figures.{table}
use Rattle.strips.specs.Tasks.{problem}
use Rattle.strips.specs.Standing.{standing}
use Rattle.session_theory.proofs.Queues.{stale_past, stale_weaker, struck_from}
use Rattle.session_theory.proofs.Sides.{at_past}
use Rattle.settling.specs.Holding.{equations_of}
use Rattle.settling.proofs.held.HeldFigures.refresh_every.Goals as goal

pub loop-item-init : goal.loop-item-init
loop-item-init g c =
    let h = c.args.self.now in
    let F = equations_of g.R.CostRule.rule c.args.base.now c.args.state.now in
    ((λ s. s), refl, λ fit t. stale_weaker F (vec_items h.figures) (vec_items h.sides) (g.Q.Queue.pairs h.queue) (λ _. true) (λ r. leb 0 r) (λ r _. le-leb 0 r (omega arith)) t)

pub loop-item-preserved : goal.loop-item-preserved
loop-item-preserved g c =
    let i = c.loop-item.item in
    let m = c.refresh.new.self in
    let inv = c.loop-item.invariant in
    let e = c.refresh.ensures in
    let F = equations_of g.R.CostRule.rule c.args.base.now c.args.state.now in (
      (λ s. e.keeps (inv.0 s)),
      e.held ∙ inv.1,
      λ fit t.
          stale_weaker F (vec_items m.figures) (vec_items m.sides) (g.Q.Queue.pairs m.queue) (struck i (λ r. leb i r)) (λ r. leb (i + 1) r) (struck_from i)
          (e.after (record { linked = fit.linked; long = ap (λ v. vec_len v) inv.1 ∙ fit.long }) (λ r. leb i r) (inv.2 fit t)),
    )

pub returns : goal.returns
returns g c =
    let k = c.loop-item.self in
    let inv = c.loop-item.invariant in
    let base = c.args.base.now in
    let F = equations_of g.R.CostRule.rule base c.args.state.now in
    record {
      keeps = inv.0;
      held = inv.1;
      after = λ fit t.
          let same = ap (λ v. vec_len v) inv.1 in
          stale_past F (vec_items k.figures) (vec_items k.sides) (g.Q.Queue.pairs k.queue) c.loop-item.item
          (λ q le. at_past (g.R.CostRule.rule base.rule) (problem base.task) (standing c.args.state.now) (table (vec_items k.figures)) q (omega (arith, le, fit.long, c.loop-item-test.false, c.len-item-end.ensures)))
          (omega (arith, k.level, k.sides.ok.0, same, c.loop-item-test.false, c.len-item-end.ensures)) (inv.2 fit t);
    }
