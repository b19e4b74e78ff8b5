use Rattle.std.proofs.Common.{◌≡◌, drop}
use Rattle.model.specs.Strips.{names}
use Rattle.settling.specs.Holding.{Fitting, Lapsing}
use Rattle.settling.proofs.held.HeldFigures.refresh_all.Given as goal

abbrev pub invariant-loop-item : goal.invariant-loop-item
invariant-loop-item g l =
    (g.Q.Queue.sound l.initial.self.queue → g.Q.Queue.sound l.self.queue)
    × (l.self.figures ≡ l.initial.self.figures)
    × (Fitting l.base l.initial.self → Lapsing g.R.CostRule.rule g.Q.Queue.pairs l.base l.state l.initial.self (names l.items)
    → Lapsing g.R.CostRule.rule g.Q.Queue.pairs l.base l.state l.self (names (drop l.item-index l.items)))
