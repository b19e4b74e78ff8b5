use Rattle.std.proofs.Common.{sym, ap, ◌∙◌, eq-eqb}
use Rattle.std.proofs.lemmas.Bool.{eqb-true}
use Rattle.figure.specs.Ranks.{rank}
use Rattle.figure.proofs.Same.{same_rank}
use Rattle.figure.proofs.values.FigurePartialEq.eq.Goals as goal

pub returns-in-Number-Number-clause-same : goal.returns-in-Number-Number-clause-same
returns-in-Number-Number-clause-same c =
    let is = ap rank c.in-Number-Number.is-0 in
    let other = ap rank c.in-Number-Number.is-1 in
    (λ e. same_rank _ _ (is ∙ eqb-true _ _ e ∙ sym other), λ e. eq-eqb _ _ (sym is ∙ ap rank e ∙ other))
