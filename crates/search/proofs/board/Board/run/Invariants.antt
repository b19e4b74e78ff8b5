use Rattle.std.proofs.Common.{◌≡◌, ℕ, ◌≤◌, length, get_or}
use Rattle.strips.specs.Tasks.{problem}
use Rattle.rows.specs.Rows.{blank}
use Rattle.search_theory.specs.Rows.{Told, Thrifty}
use Rattle.search_theory.specs.Measure.{potential}
use Rattle.search_law.specs.Views.{view, queued}
use Rattle.search_law.specs.Boards.{Standing}
use Rattle.search.specs.Loans.{held, start, Leaving}
use Rattle.search.proofs.board.Board.run.Given as goal

abbrev pub invariant-loop-i : goal.invariant-loop-i
invariant-loop-i g l =
    Standing (problem l.initial.self.task.now) (start l.initial.self) (held g.Q.Queue.pairs l.self)
    × ((k : ℕ) → l.self.used ≤ k → get_or l.self.rows.now k blank ≡ get_or l.initial.self.rows.now k blank)
    × (1 ≤ l.self.used)
    × (length l.self.rows.now ≡ length l.initial.self.rows.now)
    × (length (g.Q.Queue.pairs l.self.queue.now) ≡ length (g.Q.Queue.pairs l.initial.self.queue.now))
    × (l.steps ≡ l.initial.steps)
    × Leaving g.E.Estimator.suits g.E.Estimator.value g.E.Estimator.agrees g.Q.Queue.sound l.initial.self l.self
    × (g.E.Estimator.agrees l.initial.self.est.now × Told (g.E.Estimator.value l.initial.self.est.now) (view l.initial.self.rows.now l.initial.self.used) → Told (g.E.Estimator.value l.initial.self.est.now) (view l.self.rows.now l.self.used))
    × (g.E.Estimator.agrees l.initial.self.est.now × Told (g.E.Estimator.value l.initial.self.est.now) (view l.initial.self.rows.now l.initial.self.used) → g.Q.Queue.sound l.initial.self.queue.now → Thrifty (problem l.initial.self.task.now) (start l.initial.self) (view l.self.rows.now l.self.used))

abbrev pub decreases-loop-i : goal.decreases-loop-i
decreases-loop-i g l = potential (length l.self.rows.now) (view l.self.rows.now l.self.used) (queued (g.Q.Queue.pairs l.self.queue.now))
