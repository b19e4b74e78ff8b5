-- What is promised of held figures. Assumes nothing.
--
--   equations_of           what the equations make of a table, for a task, a rule and a state
--   Fitting                the indexes are the task's, and there is a figure for each item
--   Keeping                the right-hand sides are right and the queue is exact
--   Refreshed, Refreshes   one item, or some, are made right
--   Turned                 what one turn of a settling answers and leaves
--   Settled                what a settling answers and leaves
--   row_of                 a row of the code as a row of the subject
use Rattle.std.specs.Prelude.{◌≡◌, ℕ, ◌*◌, ◌≤◌, List, map, length, take, vec_items, vec_len, Option, slice_index_or, slice_set}
use Rattle.std.specs.declared.option.Option.TheVariants as option
use Rattle.figure.specs.declared.figure.Figure.{Figure}
use Rattle.figure.specs.declared.figure.Figure.TheVariants.{None}
use Rattle.model.specs.Strips.{State as Facts, items, struck}
use Rattle.model.specs.Figures.{Rule, Table, table, equations, Solves}
use Rattle.model.specs.Docket.{Row, Docket}
use Rattle.model.specs.Settling.{Step}
use Rattle.strips.specs.declared.state.State.{State}
use Rattle.strips.specs.Standing.{standing}
use Rattle.strips.specs.Tasks.{problem}
use Rattle.links.specs.Indexes.{Linked}
use Rattle.session_theory.specs.Kept.{Kept, Stale}
use Rattle.settling.specs.declared.base.Base.{Base}
use Rattle.settling.specs.declared.held.HeldFigures.{HeldFigures}
use Rattle.settling.specs.declared.row.DocketRow.{DocketRow}

-- a row of the code as a row of the subject
abbrev pub row_of : DocketRow → Row
row_of w = record { item = w.item; before = w.before; after = w.after }

-- what the equations make of a table
abbrev pub equations_of : {R : Type 0} (result : R → Rule) → Base R → State → Table → Table
equations_of result base state = equations (result base.rule) (problem base.task) (standing state)

-- the indexes are the task's, and there is a figure for each item
pub record Fitting {R Q : Type 0} (base : Base R) (held : HeldFigures Q) : Type 0 where
  pub linked : Linked (problem base.task) base.links
  pub long : vec_len held.figures ≡ items (problem base.task)

module _ {R Q : Type 0} (result : R → Rule) (pairs : Q → List (Option Figure)) (base : Base R) (state : State) where
  -- the right-hand sides are right and the queue is exact
  abbrev pub Keeping : HeldFigures Q → Type 0
  Keeping h = Kept (equations_of result base state) (vec_items h.figures) (vec_items h.sides) (pairs h.queue)

  -- the same, but for the stale items
  abbrev pub Lapsing : HeldFigures Q → Facts → Type 0
  Lapsing h stale = Stale (equations_of result base state) (vec_items h.figures) (vec_items h.sides) (pairs h.queue) stale

  -- the item is stale no more
  abbrev pub Refreshed : HeldFigures Q → HeldFigures Q → ℕ → Type 0
  Refreshed h k item = Fitting base h → (stale : Facts) → Lapsing h stale → Lapsing k (struck item stale)

  -- if no others were stale, all is right
  abbrev pub Refreshes : HeldFigures Q → HeldFigures Q → Facts → Type 0
  Refreshes h k stale = Fitting base h → Lapsing h stale → Keeping k

  -- the turn is a step of a settling, and its row tells it
  pub record Moving (h k : HeldFigures Q) (w : DocketRow) : Type 0 where
    pub step : Step (equations_of result base state) (vec_items h.figures) w.item w.after
    pub before : w.before ≡ slice_index_or (vec_items h.figures) w.item None
    pub after : vec_items k.figures ≡ slice_set (vec_items h.figures) w.item w.after
    pub keeping : Keeping k

  -- nothing was queued, and nothing is changed
  pub record Resting (h k : HeldFigures Q) : Type 0 where
    pub solves : Solves (equations_of result base state) (table (vec_items h.figures))
    pub after : vec_items k.figures ≡ vec_items h.figures
    pub keeping : Keeping k

  -- what one turn answers and leaves
  abbrev pub Turned : HeldFigures Q → HeldFigures Q → Option DocketRow → Type 0
  Turned h k option.None = Fitting base h → Keeping h → Resting h k
  Turned h k (option.Some w) = Fitting base h → Keeping h → Moving h k w

  -- what a settling with rows enough answers and leaves: the table, and the docket in the first n rows
  pub record SettlingDone (h k : HeldFigures Q) (first last : List DocketRow) (n : ℕ) : Type 0 where
    pub solves : Solves (equations_of result base state) (table (vec_items k.figures))
    pub docket : Docket (vec_items h.figures) (vec_items k.figures) (map row_of (take n last))
    pub keeping : Keeping k

  abbrev pub Settled : HeldFigures Q → HeldFigures Q → List DocketRow → List DocketRow → ℕ → Type 0
  Settled h k first last n = Fitting base h → Keeping h → 2 * items (problem base.task) ≤ length first → SettlingDone h k first last n
