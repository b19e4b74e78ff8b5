-- What a session means, and what its calls answer and leave. Assumes nothing.
--
--   task_of, facts_of, figures_of   the problem, the standing facts and the held figures of a session
--   Sound           what promises of figures rest on: opening ensures it and every call keeps it
--   Moved, Restanding   other facts stand, and the session is unsettled; what changing them answers and leaves
--   Entering, Striking, Settles     what enter, strike and settle answer and leave
--   Docketing       the figures and the rows of an accepted settle
--   figure_answer, goal_answer      what figure and goal figure answer
--   ready, Opened, Refusing         when a session can be opened, and what an opening answers
use Rattle.std.specs.Prelude.{◌≡◌, ℕ, ◌*◌, ◌<◌, ◌≤◌, Bool, true, false, cond, List, map, length, take, drop, Ok, Err, vec_items, Option, Result, nat_lt, slice_index_or}
use Rattle.figure.specs.declared.figure.Figure.{Figure}
use Rattle.figure.specs.declared.figure.Figure.TheVariants.{None}
use Rattle.model.specs.Strips.{Problem, State as Facts, items, entered, struck}
use Rattle.model.specs.Figures.{Rule, Table, table, figure_of, equations, Solves, goal_figure}
use Rattle.model.specs.Docket.{Docket}
use Rattle.strips.specs.declared.state.State.{State}
use Rattle.strips.specs.Standing.{standing}
use Rattle.strips.specs.Tasks.{problem}
use Rattle.links.specs.Indexes.{Linked}
use Rattle.settling.specs.declared.row.DocketRow.{DocketRow}
use Rattle.settling.specs.Holding.{Keeping, row_of}
use Rattle.session.specs.declared.fault.SessionFault.{SessionFault}
use Rattle.session.specs.declared.fault.SessionFault.TheVariants.{Unknown, Unsettled, DocketShort}
use Rattle.session.specs.declared.session.Session.{Session}

module _ {R Q : Type 0} where
  -- the problem that the session's task states
  abbrev pub task_of : Session R Q → Problem
  task_of s = problem s.base.task

  -- which facts stand
  abbrev pub facts_of : Session R Q → Facts
  facts_of s = standing s.state

  -- the held figures, by item
  abbrev pub figures_of : Session R Q → List Figure
  figures_of s = vec_items s.held.figures

module _ {R Q : Type 0} (result : R → Rule) (sound : Q → Type 0) (pairs : Q → List (Option Figure)) where
  -- what the equations make of a table, for a session's task, rule and standing facts
  abbrev pub equations_in : Session R Q → Table → Table
  equations_in s = equations (result s.base.rule) (task_of s) (facts_of s)

  -- the queue is sound, the indexes are the task's, the queue holds exactly the inconsistent items under their keys, and settled figures are the table's
  pub record Sound (s : Session R Q) : Type 0 where
    pub queue : sound s.held.queue
    pub linked : Linked (task_of s) s.base.links
    pub keeping : Keeping result pairs s.base s.state s.held
    pub solved : s.settled ≡ true → Solves (equations_in s) (table (figures_of s))

module _ {R Q : Type 0} where
  -- another state is in place, and the session is unsettled; no figure moved
  pub record Moved (s t : Session R Q) (to : State) : Type 0 where
    pub base : t.base ≡ s.base
    pub figures : t.held.figures ≡ s.held.figures
    pub state : t.state ≡ to
    pub settled : t.settled ≡ false

  -- the same with the facts that stand then
  pub record Restood (s t : Session R Q) (to : Facts) : Type 0 where
    pub base : t.base ≡ s.base
    pub figures : t.held.figures ≡ s.held.figures
    pub facts : facts_of t ≡ to
    pub settled : t.settled ≡ false

  -- what putting another state in place answers and leaves
  abbrev pub Restanding : Session R Q → Session R Q → State → ℕ → Bool → Result Bool SessionFault → Type 0
  Restanding s t to f changed (Ok true) = (f < (task_of s).facts) × (changed ≡ true) × Moved s t to
  Restanding s t to f changed (Ok false) = (f < (task_of s).facts) × (changed ≡ false) × (t ≡ s)
  Restanding s t to f changed (Err e) = ((task_of s).facts ≤ f) × (e ≡ Unknown) × (t ≡ s)

  -- what enter answers and leaves
  abbrev pub Entering : Session R Q → Session R Q → ℕ → Result Bool SessionFault → Type 0
  Entering s t f (Ok true) = (f < (task_of s).facts) × (facts_of s f ≡ false) × Restood s t (entered f (facts_of s))
  Entering s t f (Ok false) = (f < (task_of s).facts) × (facts_of s f ≡ true) × (t ≡ s)
  Entering s t f (Err e) = ((task_of s).facts ≤ f) × (e ≡ Unknown) × (t ≡ s)

  -- what strike answers and leaves
  abbrev pub Striking : Session R Q → Session R Q → ℕ → Result Bool SessionFault → Type 0
  Striking s t f (Ok true) = (f < (task_of s).facts) × (facts_of s f ≡ true) × Restood s t (struck f (facts_of s))
  Striking s t f (Ok false) = (f < (task_of s).facts) × (facts_of s f ≡ false) × (t ≡ s)
  Striking s t f (Err e) = ((task_of s).facts ≤ f) × (e ≡ Unknown) × (t ≡ s)

  -- an accepted settle: n rows are written, later ones left alone, and the session is settled
  pub record Accepted (s t : Session R Q) (first last : List DocketRow) (n : ℕ) : Type 0 where
    pub enough : 2 * items (task_of s) ≤ length first
    pub within : n ≤ length first
    pub later : drop n last ≡ drop n first
    pub base : t.base ≡ s.base
    pub state : t.state ≡ s.state
    pub settled : t.settled ≡ true

  -- what settle answers and leaves
  abbrev pub Settles : Session R Q → Session R Q → List DocketRow → List DocketRow → Result ℕ SessionFault → Type 0
  Settles s t first last (Ok n) = Accepted s t first last n
  Settles s t first last (Err e) = (length first < 2 * items (task_of s)) × (e ≡ DocketShort) × (t ≡ s) × (last ≡ first)

  -- the figures of an accepted settle are the table's, and its rows lead there
  abbrev pub Docketing : (R → Rule) → Session R Q → Session R Q → List DocketRow → Result ℕ SessionFault → Type 0
  Docketing result s t last (Ok n) =
      Solves (equations (result s.base.rule) (task_of s) (facts_of s)) (table (figures_of t)) × Docket (figures_of s) (figures_of t) (map row_of (take n last))
  Docketing result s t last (Err e) = Unit {0}

  -- what figure answers
  abbrev pub figure_answer : Session R Q → ℕ → Result Figure SessionFault
  figure_answer s i = cond (nat_lt i (items (task_of s))) (cond s.settled (Ok (slice_index_or (figures_of s) i None)) (Err Unsettled)) (Err Unknown)

  -- what goal figure answers
  abbrev pub goal_answer : (R → Rule) → Session R Q → Result Figure SessionFault
  goal_answer result s = cond s.settled (Ok (figure_of (goal_figure (result s.base.rule) (task_of s) (table (figures_of s))))) (Err Unsettled)
