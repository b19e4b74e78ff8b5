-- What a column of the printed table holds. Assumes nothing.
use Rattle.std.specs.Prelude.{◌≡◌, vec_items}
use Rattle.figure.specs.Ranks.{rank}
use Rattle.model.specs.Strips.{Problem, these}
use Rattle.model.specs.Figures.{Rule, table, goal_figure}
use Rattle.solve.specs.Tables.{Solved}
use Rattle.table.specs.declared.column.Column.{Column}

-- the one table where the start facts stand, and its goal figure
pub record WorkedOut (rule : Rule) (p : Problem) (c : Column) : Type 0 where
  pub figures : Solved rule p (these p.start) (vec_items c.figures)
  pub goal : rank c.goal ≡ goal_figure rule p (table (vec_items c.figures))
