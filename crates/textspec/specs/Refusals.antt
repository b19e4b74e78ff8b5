-- Why a frame is refused where a frame is due. Assumes nothing.
--
--   not_due         3: it is not of the kind that is due
--   whole           else 4: its length is as its kind and its counts say
--   out_of_bounds   5: a number out of bounds at a byte
--   not_rising      6: a byte that is not above the one before it in its list
--   refusal         the first of these, with its place
use Rattle.std.specs.Prelude.{ℕ, ◌+◌, ◌-◌, ◌*◌, Bool, true, false, cond, not, ◌&&◌, ◌||◌, List, length, Some, None, Option, ◌==◌, nat_le, nat_lt, slice_index}
use Rattle.textspec.specs.First.{first}
use Rattle.textspec.specs.declared.due.Due.{Due}
use Rattle.textspec.specs.declared.due.Due.TheVariants.{Head, Action, Goal, Start, End, Nothing}

-- 3: byte 0 is not that of the kind that is due; after the end no frame is
abbrev pub not_due : Due → List ℕ → Bool
not_due Head b = not (slice_index b 0 == 1)
not_due (Action n) b = not (slice_index b 0 == 2)
not_due (Goal n) b = not (slice_index b 0 == 3)
not_due (Start n) b = not (slice_index b 0 == 4)
not_due End b = not (slice_index b 0 == 5)
not_due Nothing b = true

-- the length is as the kind and the counts say; otherwise 4
abbrev pub whole : Due → List ℕ → Bool
whole Head b = length b == 4
whole (Action n) b = nat_le 4 (length b) && length b == 4 + slice_index b 1 + slice_index b 2 + slice_index b 3
whole (Goal n) b = nat_le 2 (length b) && length b == 2 + slice_index b 1
whole (Start n) b = nat_le 2 (length b) && length b == 2 + slice_index b 1
whole End b = length b == 1
whole Nothing b = true

-- 5: byte k, or the number of two bytes that begins there, is out of bounds
abbrev pub out_of_bounds : Due → List ℕ → ℕ → Bool
out_of_bounds Head b k = (k == 1 && slice_index b 1 == 0) || (k == 2 && nat_lt 512 (256 * slice_index b 2 + slice_index b 3))
out_of_bounds (Action n) b k = (nat_le 1 k && (nat_le k 3 && nat_lt 16 (slice_index b k))) || (nat_le 4 k && nat_le n (slice_index b k))
out_of_bounds (Goal n) b k = nat_le 2 k && nat_le n (slice_index b k)
out_of_bounds (Start n) b k = nat_le 2 k && nat_le n (slice_index b k)
out_of_bounds End b k = false
out_of_bounds Nothing b k = false

-- byte k is one of a list's, and not its first
abbrev pub follows : Due → List ℕ → ℕ → Bool
follows Head b k = false
follows (Action n) b k = nat_lt 4 k && (not (k == 4 + slice_index b 1) && not (k == 4 + slice_index b 1 + slice_index b 2))
follows (Goal n) b k = nat_lt 2 k
follows (Start n) b k = nat_lt 2 k
follows End b k = false
follows Nothing b k = false

-- 6: byte k is not above the one before it in its list
abbrev pub not_rising : Due → List ℕ → ℕ → Bool
not_rising due b k = follows due b k && nat_le (slice_index b k) (slice_index b (k - 1))

-- a fault's number, and the byte from 0 at which it is, or for 4 the byte count
pub record Refusal : Type 0 where
  pub number : ℕ
  pub place : ℕ

abbrev pub first_refused : ℕ → Option ℕ → Option Refusal → Option Refusal
first_refused n (Some k) o = Some (record { number = n; place = k })
first_refused n None o = o

-- the fault of a frame: the four tests in order, each over the whole frame
abbrev pub refusal : Due → List ℕ → Option Refusal
refusal due b =
    cond (not_due due b) (Some (record { number = 3; place = 0 }))
    (cond (whole due b)
    (first_refused 5 (first (out_of_bounds due b) (length b)) (first_refused 6 (first (not_rising due b) (length b)) None))
    (Some (record { number = 4; place = length b })))
