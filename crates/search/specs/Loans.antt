-- A running search as the law has it, and what each of its steps leaves. Assumes nothing.
--
--   held      the rows, the queue's pairs and the number of rows in use
--   start     the state of the first row
--   Same      the same task, and the same loans
--   Leaving   what a step leaves of them, whatever it does
use Rattle.std.specs.Prelude.{◌≡◌, ℕ, List, Option}
use Rattle.model.specs.Strips.{Problem, State}
use Rattle.queue.specs.declared.key.Pair.{Pair}
use Rattle.estimator.specs.Meanings.{Leaves}
use Rattle.search_law.specs.Boards.{Board as Held, board, first}
use Rattle.search.specs.declared.board.Board.{Board}

-- the rows, the queue's pairs and the number of rows in use
abbrev pub held : {E Q : Type 0} → (Q → List (Option Pair)) → Board E Q → Held
held pairs b = board b.rows.now (pairs b.queue.now) b.used

-- the state of the first row
abbrev pub start : {E Q : Type 0} → Board E Q → State
start b = first b.rows.now

-- the same task, and the same loans
pub record Same {E Q : Type 0} (before after : Board E Q) : Type 0 where
  pub task : after.task ≡ before.task
  pub est : after.est.ghost_name ≡ before.est.ghost_name
  pub queue : after.queue.ghost_name ≡ before.queue.ghost_name
  pub rows : after.rows.ghost_name ≡ before.rows.ghost_name

-- the same loans, an estimator of the same meaning, and a queue as sound as before
pub record Leaving {E Q : Type 0} (suits : E → Problem → Type 0) (value : E → State → ℕ) (agrees : E → Type 0) (sound : Q → Type 0) (before after : Board E Q) : Type 0 where
  pub same : Same before after
  pub leaves : Leaves suits value agrees before.est.now after.est.now
  pub keeps : sound before.queue.now → sound after.queue.now
