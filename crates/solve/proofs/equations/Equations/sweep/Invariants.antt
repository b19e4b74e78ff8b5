use Rattle.solve.specs.Systems.{equations_of}
use Rattle.solve.specs.Tables.{Swept}
use Rattle.solve.proofs.equations.Equations.sweep.Given as goal

abbrev pub invariant-loop-item : goal.invariant-loop-item
invariant-loop-item g l =
    Swept (equations_of g.R.CostRule.rule l.self) l.item l.initial.figures l.figures l.changed
