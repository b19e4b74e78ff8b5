use Rattle.std.proofs.Common.{◌+◌, Bool, List, get_or, set, sym, ◌∙◌, subst, arith}
use Rattle.std.proofs.lemmas.Bool.{not-true, not-false}
use Rattle.figure.specs.declared.figure.Figure.{Figure}
use Rattle.figure.specs.contracts.values.FigurePartialEq.TheImpl as equality
use Rattle.figure.proofs.Same.{told_equal}
use Rattle.solve.specs.Systems.{equations_of}
use Rattle.solve.specs.Tables.{Swept}
use Rattle.solve.proofs.Falls.{system_of, swept_more}
use Rattle.solve.proofs.equations.Equations.sweep.Goals as goal
use Rattle.solve.proofs.equations.Equations.sweep.Goals.{then-ne, else-ne}

pub loop-item-preserved : goal.loop-item-preserved
loop-item-preserved g c =
    let F = equations_of g.R.CostRule.rule c.args.self.now in
    let i = c.loop-item.item in let before = c.args.figures.now in let held = c.loop-item.figures in
    let f = c.side-side.result in let d = get_or held i c.index-figures-item.result in let same = equality.ghosts.eq f d in
    let P : List Figure → Bool → Type 0 = λ l b. Swept F (i + 1) before l b in
    let more = swept_more F (system_of g.R.CostRule.rule g.met.R.CostRule.lawful c.args.self.now).causal i before held c.loop-item.changed f c.index-figures-item.result same
    (omega arith) c.loop-item.auto.figures c.loop-item.invariant c.side-side.ensures (told_equal f d) in
    elim c.if-ne.branch [
      | then-ne w ↦ subst (λ l. P l c.if-ne.changed) (sym w.figures-is) (subst (λ b. P (set held i f) b) (sym w.changed-is) (more.0 (not-true same (sym c.ne.ensures ∙ w.if-ne.true))))
      | else-ne w ↦ subst (λ l. P l c.if-ne.changed) (sym w.figures-is) (subst (λ b. P held b) (sym w.changed-is) (more.1 (not-false same (sym c.ne.ensures ∙ w.if-ne.false))))
    ]
