use Rattle.std.proofs.Common.{◌≡◌, ◌<◌, ◌≤◌, [], length, take, drop}
use Rattle.search_law.specs.Boards.{Depth, way_back}
use Rattle.search.proofs.trace.trace.Given as goal

abbrev pub invariant-loop-at : goal.invariant-loop-at
invariant-loop-at l =
    (l.i < l.used) × (l.at ≤ l.n) × (length l.steps ≡ length l.initial.steps) × Depth l.rows l.at l.i
    × (way_back l.rows l.at l.i (drop l.at (take l.n l.steps)) ≡ way_back l.rows l.n l.row [])
    × (drop l.n l.steps ≡ drop l.n l.initial.steps)
