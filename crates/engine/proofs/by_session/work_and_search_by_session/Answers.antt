use Rattle.std.proofs.Common.{◌≡◌, length, sym, ap, ◌∙◌, subst}
use Rattle.std.proofs.lemmas.Result.{IfOk-at_ok, MatchResult-at_ok}
use Rattle.model.specs.Figures.{max_rule}
use Rattle.strips.specs.Standing.{standing}
use Rattle.strips.specs.Tasks.{problem}
use Rattle.session.specs.Sessions.{Sound, task_of}
use Rattle.session_estimator.specs.Estimating.{distance}
use Rattle.engine.specs.Whole.{Shortest}
use Rattle.engine.proofs.Passed.{was_ok}
use Rattle.engine.proofs.Shortness.{shortest, never_unfit}
use Rattle.engine.proofs.by_session.work_and_search_by_session.Goals as goal

pub returns : goal.returns
returns g c =
    let twin = problem c.in-Ok.twin in
    let s = standing c.args.start.now in
    let session = c.in_ok-session.session in
    let est = c.in-Ok-new.est in
    let ok = was_ok c.open_and_work.result _ c.map_err.ensures.cases c.in_ok-session.was in
    let opens = MatchResult-at_ok _ _ _ ok c.open_and_work.ensures.opens in
    let same : est.session ≡ session = c.in-Ok-new.ensures in
    let own : twin ≡ task_of session = c.in-Ok.ensures ∙ ap problem c.task.ensures in
    let is-twin : twin ≡ problem c.args.task = own ∙ ap problem opens.on_task in
    record {
      law = record {
        answers = λ sound. IfOk-at_ok _ ok (c.open_and_work.ensures.law sound);
        plans = λ sound frontier.
            subst (λ p. Shortest p s (length c.args.rows.now) c.search-outcome.new.steps c.search-outcome.result) is-twin
            (shortest twin s (distance (task_of est.session)) _ _ _ _ _ c.search-outcome.result c.search-outcome.ensures.law
            (subst (Sound (λ _. max_rule) g.Q.Queue.sound g.Q.Queue.pairs) (sym same) (IfOk-at_ok _ ok (c.open_and_work.ensures.led sound)).sound) frontier);
        fits = never_unfit twin s (distance (task_of est.session)) _ _ _ _ _ c.search-outcome.result c.search-outcome.ensures.law (own ∙ ap task_of (sym same));
      };
      halted = tt;
    }
