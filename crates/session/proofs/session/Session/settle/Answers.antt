use Rattle.std.proofs.Common.{◌*◌, ◌≤◌, length, Ok, Err, refl, arith}
use Rattle.model.specs.Strips.{items}
use Rattle.strips.specs.Tasks.{problem}
use Rattle.session.specs.declared.fault.SessionFault.TheVariants.{DocketShort}
use Rattle.session.specs.Sessions.{Sound, Settles}
use Rattle.session.proofs.Passing.{settle_goes}
use Rattle.session.proofs.session.Session.settle.Goals as goal

pub returns-then-docket-rows_needed : goal.returns-then-docket-rows_needed
returns-then-docket-rows_needed g c =
    let s = c.args.self.now in
    let d = c.args.docket.now in
    let a : Settles s s d d (Err DocketShort) = (omega (arith, c.if-docket-rows_needed.true, c.rows_needed.ensures), refl, refl, refl) in
    record {
      answer = a;
      keeps = λ sd. sd;
      figures = λ sd. tt;
      law = settle_goes g.R.CostRule.rule g.Q.Queue.sound g.Q.Queue.pairs s s (λ sd. sd) d d (length d) (Err DocketShort) a (λ sd. tt) (omega arith) (λ _. refl);
    }

pub returns : goal.returns
returns g c =
    let s = c.args.self.now in
    let d = c.args.docket.now in
    let e = c.settle-n.ensures in
    let n = c.settle-n.result in
    let last = c.settle-n.new.docket in
    let enough : 2 * items (problem s.base.task) ≤ length d = omega (arith, c.if-docket-rows_needed.false, c.rows_needed.ensures) in
    let done = λ (sd : Sound g.R.CostRule.rule g.Q.Queue.sound g.Q.Queue.pairs s). e.after sd.queue (record { linked = sd.linked; long = s.long }) sd.keeping enough in
    record {
      answer = record { enough = enough; within = e.within; later = e.later; base = refl; state = refl; settled = refl };
      keeps = λ sd. record { queue = e.keeps sd.queue; linked = sd.linked; keeping = (done sd).keeping; solved = λ _. (done sd).solves };
      figures = λ sd. ((done sd).solves, (done sd).docket);
      law =
          settle_goes g.R.CostRule.rule g.Q.Queue.sound g.Q.Queue.pairs s _
          (λ sd. record { queue = e.keeps sd.queue; linked = sd.linked; keeping = (done sd).keeping; solved = λ _. (done sd).solves })
          d last (length d) (Ok n)
          (record { enough = enough; within = e.within; later = e.later; base = refl; state = refl; settled = refl })
          (λ sd. ((done sd).solves, (done sd).docket)) (omega arith) (λ _. refl);
    }
