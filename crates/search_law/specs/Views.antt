-- What rows and queues say, as the theory of search has it. Assumes nothing.
--
--   view     the rows as the theory has them
--   key_of   the key that a row is queued under, if it is
--   queued   which rows are queued
use Rattle.std.specs.Prelude.{ℕ, ◌+◌, List, get_or, Some, None, Option, slice_index_or}
use Rattle.figure.specs.declared.figure.Figure.{Figure}
use Rattle.figure.specs.declared.figure.Figure.TheVariants.{None as Never, Number}
use Rattle.figure.specs.Ranks.{rank}
use Rattle.strips.specs.Standing.{standing}
use Rattle.queue.specs.declared.key.Pair.{Pair}
use Rattle.queue.specs.Queues.{held}
use Rattle.rows.specs.declared.row.Row.{Row}
use Rattle.rows.specs.Rows.{blank}
use Rattle.search_theory.specs.Rows.{Entry, Rows, Queued}

-- a row as the theory has it
abbrev pub entry : Row → Entry
entry w = record { state = standing w.state; steps = w.steps; estimate = rank w.estimate; from = w.from; action = w.action; opened = w.opened }

-- the rows by number, of which those below `used` are in use
abbrev pub view : List Row → ℕ → Rows
view rows used = record { used = used; row = λ i. entry (slice_index_or rows i blank) }

-- which rows are queued
abbrev pub queued : List (Option Pair) → Queued
queued t i = held t i

-- under steps and estimate, then under the estimate; not at all where that is none
abbrev pub key_of : ℕ → Figure → Option Pair
key_of steps Never = None
key_of steps (Number c) = Some (record { first = steps + c.value; second = c.value })

-- the key of row i
abbrev pub key_at : List Row → ℕ → Option Pair
key_at rows i = key_of (get_or rows i blank).steps (get_or rows i blank).estimate
