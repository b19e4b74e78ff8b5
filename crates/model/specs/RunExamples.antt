-- A worked run of a session: the fact that fed two actions falls away, and comes back. Assumes nothing.
--
--   calls_c, replies_c   what a session on task C is asked, and what it answers
--   WorkedRuns           these answers are right, under both rules
use Rattle.std.specs.Prelude.{true, false, List, [], ◌∷◌, Some}
use Rattle.figure.specs.declared.figure.Figure.TheVariants.{None}
use Rattle.model.specs.Figures.{Rule, additive_rule, max_rule, figure_of}
use Rattle.model.specs.Docket.{Row, row}
use Rattle.model.specs.FigureExamples.{task_c, rows_c}
use Rattle.model.specs.Runs.{Call, Reply, fresh, Rights}
use Rattle.model.specs.Runs.Call.{enter, strike, settle, figure, goal}
use Rattle.model.specs.Runs.Reply.{told, wrote, is, refused}

-- the first settle in task C: every item gets its first figure
abbrev pub rows_c_begun : List Row
rows_c_begun =
    row 0 None (figure_of 0) ∷ row 5 None (figure_of 1) ∷ row 1 None (figure_of 2) ∷ row 3 None (figure_of 3) ∷ row 2 None (figure_of 4) ∷ row 4 None (figure_of 5) ∷ []

-- fact 0 feeds the actions that lead from 1 to 2 and from 2 to 1; it is struck, and entered again
abbrev pub calls_c : List Call
calls_c =
    goal ∷ settle 11 ∷ settle 12 ∷ goal ∷ figure 6 ∷ strike 0 ∷ strike 0 ∷ figure 2 ∷ settle 12 ∷ figure 2 ∷ goal ∷ enter 0 ∷ enter 0 ∷ enter 3 ∷ strike 3 ∷ settle 12 ∷ settle 12 ∷ figure 2 ∷ goal ∷ []

-- unsettled; a row too few; the first figures; a goal figure; no such item; then nothing holds facts 1 and 2 up; then all is as at first
abbrev pub replies_c : List Reply
replies_c =
    refused (Some 9) ∷ refused (Some 10) ∷ wrote rows_c_begun ∷ is (figure_of 2) ∷ refused (Some 8) ∷ told true ∷ told false ∷ refused (Some 9) ∷ wrote rows_c ∷ is None ∷ is None ∷ told true ∷ told false ∷ refused (Some 8) ∷ refused (Some 8) ∷ wrote rows_c_begun ∷ wrote [] ∷ is (figure_of 4) ∷ is (figure_of 2) ∷ []

abbrev pub RightRun : Rule → Type 0
RightRun rule = Rights task_c rule (fresh task_c) calls_c replies_c

pub record WorkedRuns : Type 0 where
  pub by_additive : RightRun additive_rule
  pub by_max : RightRun max_rule
