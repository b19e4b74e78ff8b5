use Rattle.std.proofs.Common.{◌≡◌, ◌<◌, length, set, vec_items, refl, ap, ◌∙◌, arith}
use Rattle.std.proofs.lemmas.List.{get_or_read}
use Rattle.figure.specs.declared.figure.Figure.TheVariants.{None}
use Rattle.model.specs.Figures.{table}
use Rattle.strips.specs.Tasks.{problem}
use Rattle.strips.specs.Standing.{standing}
use Rattle.session_theory.specs.Kept.{due}
use Rattle.session_theory.proofs.Queues.{stale_more, stale_skip}
use Rattle.session_theory.proofs.Sides.{at_past}
use Rattle.settling.specs.Holding.{equations_of}
use Rattle.settling.proofs.held.HeldFigures.refresh.Goals as goal

pub returns-then-item-len : goal.returns-then-item-len
returns-then-item-len g c =
    let h = c.args.self.now in
    let held = vec_items h.figures in
    let right = vec_items h.sides in
    let q = c.args.item in
    let side = c.side_of-side.result in
    let pairs = g.Q.Queue.pairs in
    let F = equations_of g.R.CostRule.rule c.args.base.now c.args.state.now in
    let within : q < length held = omega (arith, c.if-item-len.true, c.len.ensures, h.figures.ok.0) in
    let long : length right ≡ length held = omega (arith, h.level, h.figures.ok.0, h.sides.ok.0) in
    record {
      keeps = c.adjust.ensures.keeps;
      held = refl;
      after = λ fit stale t.
          stale_more F held right (pairs h.queue) stale t q (set right q side) (pairs c.adjust.new.queue) side within long
          (c.side_of-side.ensures fit.linked ∙ ap (λ l. F (table l) q) c.deref.ensures.value) refl
          (c.adjust.ensures.after (omega (arith, within, t.room)) ∙ ap (λ f. set (pairs h.queue) q (due f side)) (get_or_read held q c.index.result.now within c.index.ensures None));
    }

pub returns-else-item-len : goal.returns-else-item-len
returns-else-item-len g c =
    let h = c.args.self.now in
    let held = vec_items h.figures in
    let q = c.args.item in
    let F = equations_of g.R.CostRule.rule c.args.base.now c.args.state.now in
    record {
      keeps = λ s. s;
      held = refl;
      after = λ fit stale t.
          stale_skip F held (vec_items h.sides) (g.Q.Queue.pairs h.queue) stale t q
          (omega (arith, c.if-item-len.false, c.len.ensures, h.figures.ok.0)) (omega (arith, h.level, h.figures.ok.0, h.sides.ok.0))
          (at_past (g.R.CostRule.rule c.args.base.now.rule) (problem c.args.base.now.task) (standing c.args.state.now) (table held) q (omega (arith, c.if-item-len.false, c.len.ensures, fit.long)));
    }
