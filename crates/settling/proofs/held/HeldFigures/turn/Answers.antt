use Rattle.std.proofs.Common.{◌≡◌, ℕ, ◌<◌, List, length, get_or, set, vec_items, Option, sym, refl, ap, ◌∙◌, subst, ap₂, arith, length-set}
use Rattle.std.specs.declared.option.Option.TheVariants as option
use Rattle.std.proofs.lemmas.List.{get_or_read}
use Rattle.figure.specs.declared.figure.Figure.{Figure}
use Rattle.figure.specs.declared.figure.Figure.TheVariants.{None}
use Rattle.model.specs.Strips.{names}
use Rattle.model.specs.Settling.{Step}
use Rattle.strips.specs.Tasks.{problem}
use Rattle.strips.specs.Standing.{standing}
use Rattle.session_theory.specs.Kept.{Kept, due, moved}
use Rattle.session_theory.proofs.Queues.{empty_solves}
use Rattle.session_theory.proofs.Turns.{inside, stepped, turned}
use Rattle.settling.specs.Holding.{equations_of}
use Rattle.settling.proofs.Loops.{read_stale, resting}
use Rattle.settling.proofs.held.HeldFigures.turn.Goals as goal

pub returns-in_err-item-clause-after : goal.returns-in_err-item-clause-after
returns-in_err-item-clause-after g c = λ sd.
    let h = c.args.self.now in
    let e = c.in_err-item.ensures in
    let F = equations_of g.R.CostRule.rule c.args.base.now c.args.state.now in
    resting g.R.CostRule.rule g.Q.Queue.pairs c.args.base.now c.args.state.now h _ c.from_residual.result c.from_residual.ensures
    (λ fit k. record {
      solves = empty_solves F (vec_items h.figures) (vec_items h.sides) (g.Q.Queue.pairs h.queue) k e.after.0;
      after = refl;
      keeping = subst (λ (ps : List (Option Figure)). Kept F (vec_items h.figures) (vec_items h.sides) ps) (sym e.after.1) k;
    })

pub returns-then-item-len-clause-after : goal.returns-then-item-len-clause-after
returns-then-item-len-clause-after g c = λ sd fit k.
    let h = c.args.self.now in
    let F = equations_of g.R.CostRule.rule c.args.base.now c.args.state.now in
    absurd (omega (
      arith,
      c.if-item-len.true,
      c.len.ensures,
      h.figures.ok.0,
      inside F (vec_items h.figures) (vec_items h.sides) (g.Q.Queue.pairs h.queue) k c.in_ok-item.item c.in_ok-item.field-0-1 c.in_ok-item.ensures.after.1 (omega (arith, h.level, h.figures.ok.0, h.sides.ok.0)),
    ))

pub returns-clause-after : goal.returns-clause-after
returns-clause-after g c = λ sd fit k.
    let h = c.args.self.now in
    let held = vec_items h.figures in
    let right = vec_items h.sides in
    let e = c.in_ok-item.ensures in
    let q = c.in_ok-item.item in
    let m = c.in_ok-item.field-0-1 in
    let pairs = g.Q.Queue.pairs in
    let base = c.args.base.now in
    let p = problem base.task in
    let rule = g.R.CostRule.rule base.rule in
    let F = equations_of g.R.CostRule.rule base c.args.state.now in
    let f = c.moved_from-after.result in
    let within : q < length held = omega (arith, c.if-item-len.false, c.len.ensures, h.figures.ok.0) in
    let long : length right ≡ length held = omega (arith, h.level, h.figures.ok.0, h.sides.ok.0) in
    let before : c.index-before.result.now ≡ get_or held q None = get_or_read held q c.index-before.result.now within c.index-before.ensures None in
    let side : c.index-side.result.now ≡ get_or right q None = get_or_read right q c.index-side.result.now (omega (arith, within, long)) c.index-side.ensures None in
    let next : f ≡ moved (get_or held q None) (get_or right q None) = c.moved_from-after.ensures ∙ ap₂ moved before side in
    record {
      step = subst (λ (v : Figure). Step F held q v) (sym next) (stepped F held right (pairs h.queue) k q m e.after.1 long (e.least sd));
      before = before;
      after = ap vec_items c.refresh_all.ensures.held;
      keeping =
          c.refresh_all.ensures.after (record { linked = fit.linked; long = fit.long })
          (turned F held right (pairs h.queue) (pairs c.take.new.self) (pairs c.adjust.new.queue) q f (names c.readers.result.now) within k e.after.2
          (c.adjust.ensures.after (omega (arith, within, k.room, ap length e.after.2 ∙ length-set (pairs h.queue) q option.None)) ∙ ap (λ v. set (pairs c.take.new.self) q (due f v)) side)
          (read_stale rule p (standing c.args.state.now) held q f c.readers.result.now
          (λ r a. ap (λ (l : List ℕ). names l r) c.readers.ensures ∙ fit.linked.readers q r (omega (arith, within, fit.long, h.figures.ok.0)) a)));
    }
