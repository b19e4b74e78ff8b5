use Rattle.std.proofs.Common.{◌≡◌, ◌≤◌, map, length, take, vec_items, sym, ap, ◌∙◌, subst, arith}
use Rattle.std.proofs.lemmas.List.{with_items_is, length-take-le}
use Rattle.std.proofs.lemmas.Result.{MatchResult-at_ok, MatchResult-at_err}
use Rattle.model.specs.Figures.{additive_rule}
use Rattle.model.specs.Heuristics.{sum_of}
use Rattle.model.proofs.Doubled.{heuristics}
use Rattle.strips.specs.Standing.{standing}
use Rattle.strips.specs.Tasks.{problem}
use Rattle.strips.proofs.Keeping.{lawful}
use Rattle.queue.specs.Keys.{pair_leq}
use Rattle.heap.specs.Meaning.{pairs_of, InOrder}
use Rattle.session.specs.Works.{call_of}
use Rattle.search_law.specs.Refusals.{memory}
use Rattle.search_law.specs.Law.{Law}
use Rattle.engine.proofs.Passed.{was_ok}
use Rattle.planning.specs.Laws.{start_of, plan_length, Answered}
use Rattle.planning.proofs.Figures.{tells, goal_told, why_new}
use Rattle.planning.proofs.Searches.{accepted, unrefused, law_of, answered, used_rows, plan_fits}
use Rattle.planning.proofs.searching.plan_over.Goals as goal

pub map_err-requires : goal.map_err-requires
map_err-requires g c e err =
    let law = MatchResult-at_err _ _ e err c.work_and_search.ensures.law in
    why_new (problem c.in_ok-own.own) (pairs_of c.in_ok-queue.queue) c.item_count.result e.fault c.in_ok-queue.ensures.1 c.item_count.ensures law.why

pub results_of-additive-requires : goal.results_of-additive-requires
results_of-additive-requires g c =
    let task = c.args.task.now in
    let ok = was_ok c.work_and_search.result _ c.map_err.ensures.cases c.in_ok-worked.was in
    let law = MatchResult-at_ok _ _ _ ok c.work_and_search.ensures.law in
    let lent = c.in_ok-frontier.ensures in
    let s = standing c.start_state-start.result in
    let est = c.args.est in
    let frontier = c.in_ok-frontier.field-0.frontier in
    let before = memory c.deref_mut.result.now c.deref_mut-2.result.now (pairs_of frontier) in
    let after = memory c.work_and_search.new.rows c.work_and_search.new.steps (pairs_of c.work_and_search.new.frontier) in
    let t = tells additive_rule sum_of heuristics.add heuristics.one_add (problem task) (lawful task) (problem c.in_ok-own.own) (map call_of c.args.calls.now) (vec_items c.in_ok-worked.worked.answers)
    c.in_ok-own.ensures c.requires.calls (law.answers c.in_ok-queue.ensures.0) in
    let fits = g.E.Estimator.suits est (problem task) in
    record {
      told = (t.0, t.1);
      unrefused =
          unrefused (problem task) s (g.E.Estimator.value est) fits (g.E.Estimator.agrees est) (InOrder pair_leq frontier) before after c.in_ok-worked.worked.outcome
          (accepted (problem task) (lawful task) s c.start_state-start.ensures fits c.requires.fits before lent.empty (ap length c.deref_mut.ensures.value ∙ lent.rows_long) (ap length c.deref_mut-2.ensures.value ∙ lent.steps_long))
          law.search;
    }

pub returns : goal.returns
returns g c =
    let task = c.args.task.now in
    let p = problem task in
    let ok = was_ok c.work_and_search.result _ c.map_err.ensures.cases c.in_ok-worked.was in
    let law = MatchResult-at_ok _ _ _ ok c.work_and_search.ensures.law in
    let lent = c.in_ok-frontier.ensures in
    let o = c.results_of-additive.result.1 in
    let s = standing c.start_state-start.result in
    let est = c.args.est in
    let v = g.E.Estimator.value est in
    let agrees = g.E.Estimator.agrees est in
    let frontier = c.in_ok-frontier.field-0.frontier in
    let sound = InOrder pair_leq frontier in
    let before = memory c.deref_mut.result.now c.deref_mut-2.result.now (pairs_of frontier) in
    let last = c.work_and_search.new.steps in
    let after = memory c.work_and_search.new.rows last (pairs_of c.work_and_search.new.frontier) in
    let long = ap length c.deref_mut.ensures.value ∙ lent.rows_long in
    let of-search : Law p (start_of p) v agrees sound before after o =
    law_of p s v (g.E.Estimator.suits est p) agrees sound before after c.in_ok-worked.worked.outcome o c.start_state-start.ensures c.results_of-additive.ensures.ended law.search in
    let kept : length last ≡ length c.deref_mut-2.result.now = c.work_and_search.auto.steps in
    let steps : vec_items c.truncate.new.self ≡ take (plan_length o) last =
    c.truncate.ensures.items ∙ ap (take c.plan_length.result) (with_items_is c.in_ok-frontier.field-0.steps last (kept ∙ c.deref_mut-2.ensures.len)) ∙ ap (λ n. take n last) c.plan_length.ensures in
    let fits : plan_length o ≤ length last = omega (arith, kept, plan_fits p v agrees sound before after c.requires.agrees lent.sound long o of-search) in
    record {
      additive =
          goal_told additive_rule sum_of heuristics.add heuristics.one_add p (lawful task) (problem c.in_ok-own.own) (map call_of c.args.calls.now) (vec_items c.in_ok-worked.worked.answers)
          c.in_ok-own.ensures c.requires.calls (law.answers c.in_ok-queue.ensures.0) c.results_of-additive.result.0 c.results_of-additive.ensures.tells;
      max = c.requires.figure;
      answered = subst (λ l. Answered p l o) (sym steps) (answered p v agrees sound before after c.requires.agrees lent.sound long o of-search);
      long = ap length steps ∙ length-take-le (plan_length o) last fits;
      used = used_rows p v agrees sound before after c.requires.agrees lent.sound long o of-search;
    }
