use Rattle.model.specs.Figures.{max_rule}
use Rattle.strips.specs.Standing.{standing}
use Rattle.session_estimator.specs.Estimating.{Followed}
use Rattle.session_estimator.proofs.following.follow.Given as goal

abbrev pub invariant-loop-fact : goal.invariant-loop-fact
invariant-loop-fact g l = Followed (λ _. max_rule) g.Q.Queue.sound g.Q.Queue.pairs l.initial.session l.session l.fact (standing l.state)
