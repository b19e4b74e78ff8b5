use Rattle.std.proofs.Common.{◌≡◌, map, vec_items, sym, ap, ◌∙◌, subst}
use Rattle.std.proofs.lemmas.Result.{IfOk-at_ok, MatchResult-at_ok, MatchResult-at_err}
use Rattle.model.specs.Figures.{max_rule}
use Rattle.model.specs.Heuristics.{largest_of}
use Rattle.model.proofs.Doubled.{heuristics}
use Rattle.strips.specs.Tasks.{problem}
use Rattle.strips.proofs.Keeping.{lawful}
use Rattle.queue.specs.Keys.{figure_leq}
use Rattle.heap.specs.Meaning.{pairs_of, InOrder}
use Rattle.session.specs.Sessions.{task_of, Sound}
use Rattle.session.specs.Works.{call_of}
use Rattle.engine.proofs.Passed.{was_ok}
use Rattle.planning.specs.Premises.{Told, SomeTold}
use Rattle.planning.proofs.Figures.{tells, goal_told, why_new}
use Rattle.planning.proofs.estimating.estimator_of.Goals as goal

pub map_err-requires : goal.map_err-requires
map_err-requires c e err =
    let opens = MatchResult-at_err _ _ e err c.open_and_work.ensures.opens in
    why_new (problem c.in_ok-own.own) (pairs_of c.in_ok-queue.queue) c.item_count.result e.fault c.in_ok-queue.ensures.1 c.item_count.ensures opens.why

pub told_figure-max-requires : goal.told_figure-max-requires
told_figure-max-requires c =
    let task = c.args.task.now in
    let ok = was_ok c.open_and_work.result _ c.map_err.ensures.cases c.in_ok-session.was in
    let t = tells max_rule largest_of heuristics.max heuristics.one_max (problem task) (lawful task) (problem c.in_ok-own.own) (map call_of c.args.calls.now) (vec_items c.in_ok-session.answers)
    c.in_ok-own.ensures c.requires (IfOk-at_ok _ ok (c.open_and_work.ensures.law c.in_ok-queue.ensures.0)) in
    subst SomeTold (sym c.as_slice.ensures.value) (t.0, t.1)

pub returns : goal.returns
returns c =
    let task = c.args.task.now in
    let e = c.new-4.result in
    let ok = was_ok c.open_and_work.result _ c.map_err.ensures.cases c.in_ok-session.was in
    let made = was_ok c.new-2.result _ c.map_err-2.ensures.cases c.in_ok-estimator.was in
    let opens = MatchResult-at_ok _ _ _ ok c.open_and_work.ensures.opens in
    let session : e.inner.first.session ≡ c.in_ok-session.session =
    ap (λ l. l.first.session) c.new-4.ensures.0 ∙ ap (λ s. s.session) c.new-3.ensures.0 ∙ MatchResult-at_ok _ _ _ made c.new-2.ensures in
    record {
      figure =
          goal_told max_rule largest_of heuristics.max heuristics.one_max (problem task) (lawful task) (problem c.in_ok-own.own) (map call_of c.args.calls.now) (vec_items c.in_ok-session.answers)
          c.in_ok-own.ensures c.requires (IfOk-at_ok _ ok (c.open_and_work.ensures.law c.in_ok-queue.ensures.0))
          c.told_figure-max.result (subst (λ l. Told l c.told_figure-max.result) c.as_slice.ensures.value c.told_figure-max.ensures);
      estimator = record {
        fresh = c.new-4.ensures.1;
        on_task = ap task_of session ∙ ap problem opens.on_task ∙ c.in_ok-own.ensures;
        sound = subst (Sound (λ _. max_rule) (InOrder figure_leq) pairs_of) (sym session) (IfOk-at_ok _ ok (c.open_and_work.ensures.led c.in_ok-queue.ensures.0)).sound;
      };
    }
