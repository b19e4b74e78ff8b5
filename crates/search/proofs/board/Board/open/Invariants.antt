use Rattle.strips.specs.Tasks.{problem}
use Rattle.search_law.specs.Boards.{Turning, Moves}
use Rattle.search.specs.Loans.{held, start, Leaving}
use Rattle.search.proofs.board.Board.open.Given as goal

abbrev pub invariant-loop-action : goal.invariant-loop-action
invariant-loop-action g l =
    Turning (problem l.initial.self.task.now) (start l.initial.self) (held g.Q.Queue.pairs l.self) l.i l.action
    × Moves (problem l.initial.self.task.now) (start l.initial.self) (g.E.Estimator.value l.initial.self.est.now) (g.E.Estimator.agrees l.initial.self.est.now) (held g.Q.Queue.pairs l.initial.self) (held g.Q.Queue.pairs l.self)
    × Leaving g.E.Estimator.suits g.E.Estimator.value g.E.Estimator.agrees g.Q.Queue.sound l.initial.self l.self
