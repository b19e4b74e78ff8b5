-- What the equations of a task in a state make of a table, under a rule. Assumes nothing.
--
--   equations_of   the function on tables that they are
use Rattle.model.specs.Figures.{Rule, Table, equations}
use Rattle.strips.specs.Standing.{standing}
use Rattle.strips.specs.Tasks.{problem}
use Rattle.solve.specs.declared.equations.Equations.{Equations}

module _ {R : Type 0} (result : R → Rule) where
  -- what the equations make of a table
  abbrev pub equations_of : Equations R → Table → Table
  equations_of e = equations (result e.rule.now) (problem e.task.now) (standing e.state.now)
