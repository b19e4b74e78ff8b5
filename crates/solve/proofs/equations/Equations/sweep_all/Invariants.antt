use Rattle.std.proofs.Common.{length}
use Rattle.model.specs.Figures.{table}
use Rattle.model.proofs.Causal.{total}
use Rattle.solve.specs.Systems.{equations_of}
use Rattle.solve.specs.Tables.{Falling}
use Rattle.solve.proofs.equations.Equations.sweep_all.Given as goal

abbrev pub invariant-loop : goal.invariant-loop
invariant-loop g l = Falling (equations_of g.R.CostRule.rule l.self) (table l.figures)

abbrev pub decreases-loop : goal.decreases-loop
decreases-loop g l = total (length l.initial.figures) (table l.figures)
