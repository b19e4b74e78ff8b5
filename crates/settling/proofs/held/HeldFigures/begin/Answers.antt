use Rattle.std.proofs.Common.{◌≡◌, true, List, length, replicate, vec_items, sym, ap, ◌∙◌, subst, arith}
use lib.ListN.{length-replicate}
use Rattle.figure.specs.declared.figure.Figure.{Figure}
use Rattle.figure.specs.declared.figure.Figure.TheVariants.{None}
use Rattle.model.specs.Strips.{items}
use Rattle.strips.specs.Tasks.{problem}
use Rattle.session_theory.specs.Kept.{Stale}
use Rattle.session_theory.proofs.Queues.{stale_start}
use Rattle.settling.specs.Holding.{equations_of}
use Rattle.settling.proofs.held.HeldFigures.begin.Goals as goal

pub returns-clause-after : goal.returns-clause-after
returns-clause-after g c = λ linked none room.
    let base = c.args.base.now in
    let n = items (problem base.task) in
    let F = equations_of g.R.CostRule.rule base c.args.state.now in
    let pairs = g.Q.Queue.pairs c.args.queue in
    let count = ap (λ m. replicate m None) c.item_count-count.ensures in
    let a : vec_items c.in-Ok.figures ≡ replicate n None = c.in-Ok.ensures.items_if_clones_equal (λ y h. h) ∙ count in
    let b : vec_items c.in-Ok-vec.sides ≡ replicate n None = c.in-Ok-vec.ensures.items_if_clones_equal (λ y h. h) ∙ count in
    c.refresh_every.ensures.after (record { linked = linked; long = omega (arith, ap length a, length-replicate n None, c.in-Ok.figures.ok.0) })
    (subst (λ (v : List Figure). Stale F v (vec_items c.in-Ok-vec.sides) pairs (λ _. true)) (sym a)
    (subst (λ (v : List Figure). Stale F (replicate n None) v pairs (λ _. true)) (sym b) (stale_start F n pairs none room)))
