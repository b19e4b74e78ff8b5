use Rattle.std.proofs.Common.{◌≡◌, ℕ, ◌+◌, true, List, ◌∷◌, get_or, drop, vec_items, vec_len, ap, ◌∙◌, subst}
use Rattle.std.proofs.lemmas.List.{drop_more, drop_all}
use Rattle.model.specs.Strips.{names, struck}
use Rattle.session_theory.proofs.Queues.{stale_none, stale_weaker}
use Rattle.settling.specs.Holding.{equations_of, Lapsing}
use Rattle.settling.proofs.Loops.{struck_first}
use Rattle.settling.proofs.held.HeldFigures.refresh_all.Goals as goal

pub loop-item-preserved : goal.loop-item-preserved
loop-item-preserved g c =
    let l = c.args.items.now in
    let i = c.loop-item.item-index in
    let k = c.loop-item.self in
    let m = c.refresh.new.self in
    let inv = c.loop-item.invariant in
    let e = c.refresh.ensures in
    let F = equations_of g.R.CostRule.rule c.args.base.now c.args.state.now in
    let x = get_or l i 0 in
    let cut : drop i l ≡ x ∷ drop (i + 1) l = drop_more l i 0 c.loop-item-test.true in (
      (λ s. e.keeps (inv.0 s)),
      e.held ∙ inv.1,
      λ fit t.
          stale_weaker F (vec_items m.figures) (vec_items m.sides) (g.Q.Queue.pairs m.queue) (struck x (names (drop i l))) (names (drop (i + 1) l))
          (λ r a. struck_first x (drop (i + 1) l) r (subst (λ v. struck x (names v) r ≡ true) cut a))
          (e.after (record { linked = fit.linked; long = ap (λ v. vec_len v) inv.1 ∙ fit.long }) (names (drop i l)) (inv.2 fit t)),
    )

pub returns : goal.returns
returns g c =
    let l = c.args.items.now in
    let k = c.loop-item.self in
    let inv = c.loop-item.invariant in
    let F = equations_of g.R.CostRule.rule c.args.base.now c.args.state.now in
    record {
      keeps = inv.0;
      held = inv.1;
      after = λ fit t.
          stale_none F (vec_items k.figures) (vec_items k.sides) (g.Q.Queue.pairs k.queue)
          (subst (λ (v : List ℕ). Lapsing g.R.CostRule.rule g.Q.Queue.pairs c.args.base.now c.args.state.now k (names v)) (drop_all c.loop-item.item-index l c.loop-item-test.false) (inv.2 fit t));
    }
