use Rattle.std.proofs.Common.{ap, ◌∙◌}
use Rattle.std.specs.Result.{result_unwrap_or}
use Rattle.figure.specs.declared.figure.Figure.TheVariants.{None as Never}
use Rattle.figure.specs.Ranks.{rank}
use Rattle.strips.specs.Standing.{standing}
use Rattle.session_estimator.proofs.Asking.{leads_asked, answered}
use Rattle.session_estimator.proofs.estimate.goal_figure_at.Goals as goal

pub returns : goal.returns
returns g c =
    let s = c.args.session.now in
    let t = c.follow.new.session in
    let v = c.settle.new.self in
    let u = standing c.args.state.now in
    record {
      figure = λ room snd.
          let (f, e, h) = answered g.Q.Queue.sound g.Q.Queue.pairs s t v u c.args.docket.now c.settle.new.docket c.settle.result c.goal_figure.result c.follow.ensures c.settle.ensures.answer c.settle.ensures.figures c.goal_figure.ensures.answer room snd in
          ap rank (c.unwrap_or.ensures ∙ ap (λ r. result_unwrap_or r Never) e) ∙ h;
      leads = leads_asked g.Q.Queue.sound g.Q.Queue.pairs s t v u c.args.docket.now c.settle.new.docket c.settle.result _ _ c.follow.ensures c.settle.ensures.answer c.settle.ensures.keeps c.settle.ensures.law c.goal_figure.ensures.law;
    }
