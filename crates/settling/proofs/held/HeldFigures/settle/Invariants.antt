use Rattle.std.proofs.Common.{◌≡◌, map, take, drop, vec_items, vec_len}
use Rattle.model.specs.Settling.{Settling}
use Rattle.settling.specs.Holding.{Fitting, Keeping, equations_of, row_of}
use Rattle.settling.proofs.held.HeldFigures.settle.Given as goal

abbrev pub invariant-loop-n : goal.invariant-loop-n
invariant-loop-n g l =
    (drop l.n l.docket ≡ drop l.n l.initial.docket)
    × (vec_len l.self.figures ≡ vec_len l.initial.self.figures)
    × (g.Q.Queue.sound l.initial.self.queue → g.Q.Queue.sound l.self.queue)
    × (g.Q.Queue.sound l.initial.self.queue → Fitting l.base l.initial.self → Keeping g.R.CostRule.rule g.Q.Queue.pairs l.base l.state l.initial.self
    → Keeping g.R.CostRule.rule g.Q.Queue.pairs l.base l.state l.self
    × Settling (equations_of g.R.CostRule.rule l.base l.state) (vec_items l.initial.self.figures) (vec_items l.self.figures) (map row_of (take l.n l.docket)))
