-- Which frame is due. Assumes nothing.
--
--   due_at      the frame that is due after the head and n more
--   due_after   the frame that is due after these
use Rattle.std.specs.Prelude.{ℕ, ◌+◌, ◌*◌, cond, List, [], ◌∷◌, length, ◌==◌, nat_lt, slice_index}
use Rattle.textspec.specs.declared.due.Due.{Due}
use Rattle.textspec.specs.declared.due.Due.TheVariants.{Head, Action, Goal, Start, End, Nothing}

-- after the head and n more: the actions that it announces, the goal, the start, the end, nothing
abbrev pub due_at : ℕ → ℕ → ℕ → Due
due_at facts actions n =
    cond (nat_lt n actions) (Action facts)
    (cond (n == actions) (Goal facts)
    (cond (n == actions + 1) (Start facts)
    (cond (n == actions + 2) End Nothing)))

-- after no frame the head is due; after it, what it announces
abbrev pub due_after : List (List ℕ) → Due
due_after [] = Head
due_after (h ∷ fs) = due_at (slice_index h 1) (256 * slice_index h 2 + slice_index h 3) (length fs)
