use Rattle.std.proofs.Common.{◌≡◌, ℕ, List, map, Ok, Err, sym, ap, ◌∙◌, ap₂}
use Rattle.std.proofs.lemmas.Bool.{cond-true, cond-false}
use Rattle.figure.specs.declared.figure.Figure.{Figure}
use Rattle.figure.specs.Ranks.{rank, halved}
use Rattle.model.specs.Figures.{table, figure_of, goal_figure}
use Rattle.model.proofs.Ranked.{figure_rank}
use Rattle.session.specs.declared.fault.SessionFault.TheVariants.{Unsettled}
use Rattle.session.specs.Sessions.{task_of, figures_of, goal_answer}
use Rattle.session.proofs.Passing.{goal_goes}
use Rattle.session.proofs.session.Session.goal_figure.Goals as goal

pub returns-then-not-self : goal.returns-then-not-self
returns-then-not-self g c =
    let s = c.args.self.now in
    let a : Err Unsettled ≡ goal_answer g.R.CostRule.rule s = sym (cond-false _ _ _ c.if-not-self.true) in
    record { answer = a; law = goal_goes g.R.CostRule.rule g.Q.Queue.sound g.Q.Queue.pairs s (Err Unsettled) a }

pub returns : goal.returns
returns g c =
    let s = c.args.self.now in
    let rule = g.R.CostRule.rule s.base.rule in
    let f = c.half.result in
    let rank_is : rank f ≡ goal_figure rule (task_of s) (table (figures_of s)) =
    c.half.ensures ∙ ap halved (c.over.ensures ∙ ap₂ (λ (l : List Figure) (gs : List ℕ). rule (map (table l) gs)) c.as_slice.ensures c.goal.ensures) in
    let is : f ≡ figure_of (goal_figure rule (task_of s) (table (figures_of s))) = sym (figure_rank f) ∙ ap figure_of rank_is in
    let a : Ok f ≡ goal_answer g.R.CostRule.rule s = ap (λ (v : Figure). Ok v) is ∙ sym (cond-true _ _ _ c.if-not-self.false) in
    record { answer = a; law = goal_goes g.R.CostRule.rule g.Q.Queue.sound g.Q.Queue.pairs s (Ok f) a }
