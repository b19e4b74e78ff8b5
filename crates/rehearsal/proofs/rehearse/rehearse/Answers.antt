use Rattle.std.proofs.Common.{◌+◌, drop, Some, sym, ap, ◌∙◌, subst, arith, rules}
use Rattle.model.specs.Strips.{Within}
use Rattle.model.specs.Rehearsals.{verdict_from, reading, lacking, unless, missing, plan}
use Rattle.strips.specs.Members.{FirstFrom}
use Rattle.strips.specs.Standing.{standing}
use Rattle.strips.specs.Tasks.{problem}
use Rattle.strips.specs.Actions.{action_of}
use Rattle.rehearsal.proofs.Along.{at_unknown, at_blocked, at_step, at_end, within_answer, beyond_answer}
use Rattle.rehearsal.proofs.rehearse.rehearse.Goals as goal

pub returns-in-Some : goal.returns-in-Some
returns-in-Some c =
    let s = standing c.args.live.now in
    record {
      same = search rules;
      answer = beyond_answer (problem c.args.task.now) s c.args.steps.now _ (subst (λ n. FirstFrom s n (Some c.in-Some.fact)) c.facts.ensures.is c.in-Some.ensures);
    }

pub returns-in_default-action : goal.returns-in_default-action
returns-in_default-action c =
    let p = problem c.args.task.now in let s = standing c.args.live.now in let acts = c.args.steps.now in
    let i = c.loop-step.step in let u = standing c.loop-step.guard.live.now in
    record {
      same = search rules;
      answer = within_answer p s acts _ (subst (λ n. Within n s) c.facts.ensures.is c.in_default.ensures)
          (ap reading (sym (at_unknown p acts i u (omega arith) c.in_default-action.ensures) ∙ c.loop-step.invariant));
    }

pub returns-in-Some-first_missing : goal.returns-in-Some-first_missing
returns-in-Some-first_missing c =
    let p = problem c.args.task.now in let s = standing c.args.live.now in let acts = c.args.steps.now in
    let i = c.loop-step.step in let u = standing c.loop-step.guard.live.now in
    let a = action_of c.in-Some-action.action.now in
    record {
      same = search rules;
      answer = within_answer p s acts _ (subst (λ n. Within n s) c.facts.ensures.is c.in_default.ensures)
          (ap reading (sym (at_blocked p acts i u a (omega arith) c.in-Some-action.ensures c.in-Some-first_missing.fact (ap (lacking u) (sym c.preconditions.ensures) ∙ sym c.in-Some-first_missing.ensures)) ∙ c.loop-step.invariant));
    }

pub loop-step-preserved : goal.loop-step-preserved
loop-step-preserved c =
    let p = problem c.args.task.now in let acts = c.args.steps.now in
    let i = c.loop-step.step in let u = standing c.loop-step.guard.live.now in
    let a = action_of c.in-Some-action.action.now in
    ap (λ t. verdict_from p (i + 1) t (drop (i + 1) acts)) c.after-guard.ensures
    ∙ sym (at_step p acts i u a (omega arith) c.in-Some-action.ensures (ap (lacking u) (sym c.preconditions.ensures) ∙ sym c.in_default-first_missing.ensures))
    ∙ c.loop-step.invariant

pub returns-in-Some-first_missing-2 : goal.returns-in-Some-first_missing-2
returns-in-Some-first_missing-2 c =
    let p = problem c.args.task.now in let s = standing c.args.live.now in let acts = c.args.steps.now in
    let i = c.loop-step.step in let u = standing c.loop-step.guard.live.now in
    record {
      same = search rules;
      answer = within_answer p s acts _ (subst (λ n. Within n s) c.facts.ensures.is c.in_default.ensures)
          (ap reading (ap (λ o. unless o missing plan) (c.in-Some-first_missing-2.ensures ∙ ap (lacking u) c.goal.ensures) ∙ sym (at_end p acts i u (omega arith)) ∙ c.loop-step.invariant));
    }

pub returns : goal.returns
returns c =
    let p = problem c.args.task.now in let s = standing c.args.live.now in let acts = c.args.steps.now in
    let i = c.loop-step.step in let u = standing c.loop-step.guard.live.now in
    record {
      same = search rules;
      answer = within_answer p s acts _ (subst (λ n. Within n s) c.facts.ensures.is c.in_default.ensures)
          (ap reading (ap (λ o. unless o missing plan) (c.in_default-first_missing-2.ensures ∙ ap (lacking u) c.goal.ensures) ∙ sym (at_end p acts i u (omega arith)) ∙ c.loop-step.invariant));
    }
