use Rattle.std.proofs.Common.{◌≡◌, true, leb}
use Rattle.settling.specs.Holding.{Fitting, Lapsing}
use Rattle.settling.proofs.held.HeldFigures.refresh_every.Given as goal

abbrev pub invariant-loop-item : goal.invariant-loop-item
invariant-loop-item g l =
    (g.Q.Queue.sound l.initial.self.queue → g.Q.Queue.sound l.self.queue)
    × (l.self.figures ≡ l.initial.self.figures)
    × (Fitting l.base l.initial.self → Lapsing g.R.CostRule.rule g.Q.Queue.pairs l.base l.state l.initial.self (λ _. true)
    → Lapsing g.R.CostRule.rule g.Q.Queue.pairs l.base l.state l.self (λ r. leb l.item r))
