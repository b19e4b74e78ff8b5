use Rattle.std.proofs.Common.{◌≡◌, drop}
use Rattle.model.specs.Rehearsals.{verdict_from, verdict}
use Rattle.strips.specs.Standing.{standing}
use Rattle.strips.specs.Tasks.{problem}
use Rattle.rehearsal.proofs.rehearse.rehearse.Given as goal

abbrev pub invariant-loop-step : goal.invariant-loop-step
invariant-loop-step l =
    verdict_from (problem l.task) l.step (standing l.guard.live.now) (drop l.step l.steps)
    ≡ verdict (problem l.task) (standing l.initial.guard.saved) l.steps
