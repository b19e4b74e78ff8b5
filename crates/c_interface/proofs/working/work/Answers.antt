use Rattle.std.proofs.Common.{map, vec_items, sym, ap, ◌∙◌, subst}
use Rattle.model.specs.Runs.{fresh, Rights}
use Rattle.strips.specs.Tasks.{problem}
use Rattle.session.specs.Works.{call_of, reply_of}
use Rattle.wire.specs.Answers.{answer_bytes}
use Rattle.choices.specs.Rules.{rule_of}
use Rattle.c_interface.proofs.working.work.Goals as goal

pub returns : goal.returns
returns c =
    let p = problem c.in_ok-task.task in
    let replies = map reply_of (vec_items c.in_ok-answers.answers) in (
      replies,
      record {
        chosen = record { cost = c.in_ok-cost.cost; store = c.in_ok-store.store; rule_is = sym c.in_ok-cost.ensures; queue_is = sym c.in_ok-store.ensures };
        asked = map call_of (vec_items c.in_ok-asked.asked);
        problem = p;
        writes = c.in_ok-asked.ensures;
        states = c.in_ok-task.ensures;
        rights = subst (λ asked. Rights p (rule_of c.in_ok-cost.cost) (fresh p) (map call_of asked) replies) c.as_slice.ensures.value c.in_ok-answers.ensures;
      },
      c.in_ok-bytes.ensures ∙ ap (λ answers. answer_bytes (map reply_of answers)) c.as_slice-2.ensures.value,
    )
