use Rattle.std.proofs.Common.{◌≡◌, ℕ, ◌<◌, length, ◌∙◌, subst}
use Rattle.model.specs.Strips.{items}
use Rattle.model.specs.Figures.{table}
use Rattle.model.proofs.Causal.{total}
use Rattle.strips.specs.Tasks.{problem}
use Rattle.solve.specs.Systems.{equations_of}
use Rattle.solve.proofs.Falls.{system_of, sum_falls, solved}
use Rattle.solve.proofs.equations.Equations.sweep_all.Goals as goal

pub loop-smaller : goal.loop-smaller
loop-smaller g c =
    let P : ℕ → Type 0 = λ n. total n (table c.sweep.new.figures) < total n (table c.loop.figures) in
    subst P c.loop.auto.figures (sum_falls (equations_of g.R.CostRule.rule c.args.self.now) (length c.loop.figures) c.loop.figures c.sweep.new.figures c.loop-test.ensures)

pub returns : goal.returns
returns g c =
    let n = items (problem c.args.self.now.task.now) in
    let whole : length c.loop.figures ≡ n = c.loop.auto.figures ∙ c.requires.whole in
    solved n (equations_of g.R.CostRule.rule c.args.self.now) (system_of g.R.CostRule.rule g.met.R.CostRule.lawful c.args.self.now) c.loop.figures c.sweep.new.figures whole (c.sweep.auto.figures ∙ whole) c.loop-test.ensures
