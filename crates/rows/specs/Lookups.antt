-- A tree of links between rows, by which a state's row is found. Assumes nothing.
--
--   link     where a look-up goes on from a row
--   Way      a look-up comes from one row to another
--   Tree     each row in use is found by its state
--   Seated   a row of a state may hang under a row
--   Looked   what a look-up answers
--   linked   a row with one link more
--   Alike    the same rows but for their links
--   Hung     what writing and linking a row leaves
use Rattle.std.specs.Prelude.{◌≡◌, ℕ, ◌+◌, ◌<◌, ◌≤◌, cond, List, length, get_or, Some, None, Option, IfSome, ◌≢◌, slice_index_or, slice_set}
use Rattle.model.specs.Strips.{State as Facts}
use Rattle.strips.specs.Standing.{standing}
use Rattle.rows.specs.declared.row.Row.{Row}
use Rattle.rows.specs.declared.seat.Seat.{Seat}
use Rattle.rows.specs.declared.seat.Seat.TheVariants.{Found, Under}
use Rattle.rows.specs.Rows.{blank, bare}

-- the row at which a look-up of s goes on, if it does
unfoldable pub link : Row → Facts → Option ℕ
link w s = cond (s w.fact) w.on w.off

-- the state of row i
abbrev pub state_at : List Row → ℕ → Facts
state_at rows i = standing (get_or rows i blank).state

-- the row at which a look-up of s goes on from row i, if it does
abbrev pub next : List Row → Facts → ℕ → Option ℕ
next rows s i = link (slice_index_or rows i blank) s

-- from row i, a look-up of s comes to row k
pub data Way (rows : List Row) (s : Facts) : ℕ → ℕ → Type 0 where
  here : (i : ℕ) → Way rows s i i
  down : (i j k : ℕ) → (state_at rows i ≢ s) → next rows s i ≡ Some j → Way rows s j k → Way rows s i k

-- a link, if there is one, goes to a later row in use
abbrev pub Later : ℕ → ℕ → Option ℕ → Type 0
Later used i link = IfSome link (λ n. (i < n) × (n < used))

-- each row in use is found by its state
pub record Tree (rows : List Row) (used : ℕ) : Type 0 where
  pub some : 0 < used
  pub fits : used ≤ length rows
  pub found : (k : ℕ) → k < used → Way rows (state_at rows k) 0 k
  pub off : (i : ℕ) → i < used → Later used i (get_or rows i blank).off
  pub on : (i : ℕ) → i < used → Later used i (get_or rows i blank).on

-- a row of the state s may hang under row i
pub record Seated (rows : List Row) (s : Facts) (i : ℕ) : Type 0 where
  pub way : Way rows s 0 i
  pub other : state_at rows i ≡ s → ⊥
  pub free : next rows s i ≡ None

-- row i is in use and has the state
pub record Has (rows : List Row) (used : ℕ) (s : Facts) (i : ℕ) : Type 0 where
  pub within : i < used
  pub is : state_at rows i ≡ s

-- no row in use has the state, and one of it belongs under row i
pub record Missing (rows : List Row) (used : ℕ) (s : Facts) (i : ℕ) : Type 0 where
  pub within : i < used
  pub none : (k : ℕ) → k < used → state_at rows k ≢ s
  pub seated : Seated rows s i

-- the row in use that has the state, or, where there is none, the row under which it belongs
abbrev pub Looked : List Row → ℕ → Facts → Seat → Type 0
Looked rows used s (Found i) = Has rows used s i
Looked rows used s (Under i) = Missing rows used s i

-- no look-up goes on from the row
abbrev pub Leaf : Row → Type 0
Leaf w = (w.off ≡ None) × (w.on ≡ None)

-- the row with a link to n for look-ups of s, branching by the fact f
abbrev pub linked : Row → Facts → ℕ → ℕ → Row
linked w s f n =
    record { state = w.state; steps = w.steps; estimate = w.estimate; from = w.from; action = w.action; opened = w.opened; fact = f; off = cond (s f) w.off (Some n); on = cond (s f) (Some n) w.on }

-- the same rows but for their links
pub record Alike (rows after : List Row) : Type 0 where
  pub long : length after ≡ length rows
  pub same : (k : ℕ) → bare (slice_index_or after k blank) ≡ bare (slice_index_or rows k blank)

-- the numbers of a new row and of the earlier one that it hangs under
pub record Numbers (rows : List Row) (under number : ℕ) : Type 0 where
  pub earlier : under < number
  pub within : number < length rows
  pub small : number ≤ 65535

-- the row is written and nothing else changes but a link under which it is found
pub record Written (rows : List Row) (under number : ℕ) (row : Row) (after : List Row) : Type 0 where
  pub alike : Alike (slice_set rows number row) after
  pub rest : (k : ℕ) → number < k → slice_index_or after k blank ≡ slice_index_or rows k blank
  pub tree : Tree rows number → Seated rows (standing row.state) under → Tree after (number + 1)

-- it is written where the numbers fit; else the rows are as they were
pub record Hung (rows : List Row) (under number : ℕ) (row : Row) (after : List Row) : Type 0 where
  pub fitting : Numbers rows under number → Written rows under number row after
  pub unfit : (Numbers rows under number → ⊥) → after ≡ rows
