use Rattle.std.proofs.Common.{◌≡◌, true, length, replicate, None, sym, ap, ◌∙◌, subst, arith}
use Rattle.std.proofs.lemmas.List.{with_items_is, length-replicate}
use Rattle.queue.specs.Queues.{vacant}
use Rattle.strips.specs.Standing.{standing}
use Rattle.strips.specs.Tasks.{problem}
use Rattle.search_law.specs.Refusals.{memory}
use Rattle.choices.specs.Finding.{Finds}
use Rattle.choices.proofs.Searched.{Got, empty_queue, finds}
use Rattle.choices.proofs.query.Query.find_by.Goals as goal

pub returns : goal.returns
returns g c = λ agrees suits.
    let p = problem c.args.self.now.task.now in
    let s = standing c.args.self.now.start.now in
    let lent = c.min-lent.result in
    let records = c.deref_mut.result.now in
    let steps = c.deref_mut-2.result.now in
    let pairs = g.P.Queue.pairs c.in_ok-frontier.frontier in
    let empty : pairs ≡ replicate lent None = c.in_ok-frontier.ensures.1 in
    let many : length records ≡ lent = c.deref_mut.ensures.len ∙ c.in_ok-records.ensures.len in
    let as_many : length steps ≡ lent = c.deref_mut-2.ensures.len ∙ c.in_ok-steps.ensures.len in
    let places : length pairs ≡ lent = ap length empty ∙ length-replicate lent None in
    let before = memory records steps pairs in
    let after = memory c.search-result.new.rows c.search-result.new.steps (g.P.Queue.pairs c.search-result.new.queue) in
    let got : Got c.args.self.now.rows before = record {
      rows_got = many ∙ c.min-lent.ensures;
      steps_got = as_many ∙ c.min-lent.ensures;
      queue_got = record { empty = subst (λ q. vacant q ≡ true) (sym empty) (empty_queue lent); space = omega (arith, many, places) };
    } in
    let long : length c.search-result.new.steps ≡ length steps = c.search-result.auto.steps in
    subst (λ t. Finds p s c.args.self.now.rows t c.search-result.result)
    (sym (with_items_is c.in_ok-steps.steps c.search-result.new.steps (long ∙ c.deref_mut-2.ensures.len)))
    (finds p s (g.E.Estimator.value c.args.est.now) _ _ _ before after c.args.self.now.rows got long agrees c.in_ok-frontier.ensures.0 suits c.search-result.result c.search-result.ensures.law)
