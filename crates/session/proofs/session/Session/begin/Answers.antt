use Rattle.std.proofs.Common.{◌≡◌, Bool, true, false, ◌&&◌, leb, length, refl, ap, ◌∙◌, arith}
use lib.ListN.{length-replicate}
use Rattle.std.proofs.lemmas.Bool.{leb-true, false≢true}
use Rattle.figure.specs.Ranks.{rank}
use Rattle.figure.specs.declared.figure.Figure.TheVariants.{None}
use Rattle.model.specs.Strips.{items}
use Rattle.model.specs.Figures.{table}
use Rattle.strips.specs.Tasks.{problem}
use Rattle.queue.specs.Queues.{vacant}
use Rattle.session_theory.proofs.Queues.{nothing}
use Rattle.session.proofs.session.Session.begin.Goals as goal

both_true : (a b : Bool) → (a && b) ≡ true → (a ≡ true) × (b ≡ true)
both_true true b e = (refl, e)
both_true false b e = absurd (false≢true e)

pub invariant_of-result : goal.invariant_of-result
invariant_of-result g c =
    let n = items (problem c.args.base.task) in
    record { long = omega (arith, ap length c.in-Ok.ensures.held, length-replicate n None, c.in-Ok.held.figures.ok.0) }

pub returns-in-Ok : goal.returns-in-Ok
returns-in-Ok g c =
    let p = problem c.args.base.task in
    let e = c.in-Ok.ensures in
    let pairs = g.Q.Queue.pairs c.args.queue in
    let fit = both_true (vacant pairs) (leb (items p) (length pairs)) c.requires.0 in
    record {
      opens = record { was_ready = c.requires.0; on_task = refl; by_rule = refl; facts = c.start_state-state.ensures; figures = e.held; settled = refl };
      led = λ sd. record {
        sound = record {
          queue = e.keeps sd;
          linked = c.requires.1;
          keeping = e.after c.requires.1 fit.0 (leb-true (items p) (length pairs) fit.1);
          solved = λ h. absurd (false≢true h);
        };
        facts = c.start_state-state.ensures;
        settled = refl;
        shown = λ q. ap (λ l. table l q) e.held ∙ ap rank (nothing (items p) q);
      };
    }

pub returns-in-Err : goal.returns-in-Err
returns-in-Err g c = record {
  opens = record { why = c.requires.0; same_task = refl; same_rule = refl; same_queue = c.in-Err.ensures.held };
  led = λ sd. tt;
}
