use Rattle.std.proofs.Common.{ℕ, ◌+◌, ◌<◌, ◌≤◌, get_or}
use Rattle.rows.specs.Rows.{blank}
use Rattle.search_law.specs.Boards.{Depth}
use Rattle.search.proofs.trace.depth.Given as goal

abbrev pub invariant-loop-i : goal.invariant-loop-i
invariant-loop-i l =
    (l.i < l.used) × ((m : ℕ) → Depth l.rows m l.i → Depth l.rows (l.n + m) l.row) × (l.n + (get_or l.rows l.i blank).steps ≤ (get_or l.rows l.row blank).steps)

abbrev pub decreases-loop-i : goal.decreases-loop-i
decreases-loop-i l = (get_or l.rows l.i blank).steps
