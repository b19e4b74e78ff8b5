-- The table of figures that is worked out, and the sweeps that lead to it. Assumes nothing.
--
--   Solved    figures of all items that solve the equations, as no other table does
--   Falling   no item's figure is below what the equations make of it
--   Swept     what a sweep over the first items leaves
use Rattle.std.specs.Prelude.{◌≡◌, ℕ, ◌<◌, ◌≤◌, Bool, true, false, List, length}
use Rattle.figure.specs.declared.figure.Figure.{Figure}
use Rattle.model.specs.Strips.{Problem, State, items}
use Rattle.model.specs.Figures.{Rule, Table, table, equations, Solves}
use Rattle.model.specs.Settling.{Consistent}

-- the figures of the one table
pub record Solved (rule : Rule) (p : Problem) (s : State) (figures : List Figure) : Type 0 where
  -- one for each item
  pub whole : length figures ≡ items p
  -- they solve the equations
  pub solves : Solves (equations rule p s) (table figures)
  -- and no other table does
  pub only : (x : Table) → Solves (equations rule p s) x → (q : ℕ) → x q ≡ table figures q

-- no item's figure is below what the equations make of it
abbrev pub Falling : (Table → Table) → Table → Type 0
Falling F x = (q : ℕ) → F x q ≤ x q

-- what a sweep over the first n items leaves; F x is what the equations make of the figures x
pub record Swept (F : Table → Table) (n : ℕ) (before after : List Figure) (changed : Bool) : Type 0 where
  -- still no figure is below what the equations make of it
  pub falling : Falling F (table after)
  -- no figure has risen
  pub lower : (q : ℕ) → table after q ≤ table before q
  -- if one has changed, one has fallen
  pub fell : changed ≡ true → (q : ℕ) × (q < length before) × (table after q < table before q)
  -- if none has, each of these items is consistent
  pub settled : changed ≡ false → (q : ℕ) → q < n → Consistent F (table after) q
