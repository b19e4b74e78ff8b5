use Rattle.std.proofs.Common.{◌∙◌, arith}
use Rattle.figure.specs.Ranks.{rank}
use Rattle.model.specs.Figures.{table}
use Rattle.strips.specs.Standing.{standing}
use Rattle.strips.specs.Tasks.{problem}
use Rattle.solve.proofs.Items.{fact_equation, action_equation}
use Rattle.solve.proofs.equations.Equations.side.Goals as goal

pub returns-then-item-facts : goal.returns-then-item-facts
returns-then-item-facts g c =
    fact_equation (g.R.CostRule.rule c.args.self.now.rule.now) (problem c.args.self.now.task.now) (standing c.args.self.now.state.now) (table c.args.figures.now)
    c.args.item (rank c.fact_side.result) (omega (arith, c.facts.ensures.is, c.from-facts.ensures)) c.fact_side.ensures

pub returns-else-item-facts : goal.returns-else-item-facts
returns-else-item-facts g c =
    action_equation (g.R.CostRule.rule c.args.self.now.rule.now) (problem c.args.self.now.task.now) (standing c.args.self.now.state.now) (table c.args.figures.now)
    c.from-facts.result c.args.item (rank c.action_side.result) (c.from-facts.ensures ∙ c.facts.ensures.is) c.if-item-facts.false c.action_side.ensures
