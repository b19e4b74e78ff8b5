use Rattle.std.proofs.Common.{replicate, None, sym, ap, ◌∙◌, subst, subst₂, arith, rules}
use Rattle.strips.specs.Standing.{standing}
use Rattle.strips.specs.Tasks.{problem}
use Rattle.search_theory.specs.Rows.{Told}
use Rattle.search_theory.proofs.Walk.{reached}
use Rattle.search_law.specs.Views.{view}
use Rattle.search_law.specs.Refusals.{memory}
use Rattle.search_law.specs.Law.{used_of}
use Rattle.search_law.specs.Boards.{board, Standing, Ran}
use Rattle.search_law.proofs.Opens.{begun}
use Rattle.search_law.proofs.Endings.{never_full, says_map, told_like}
use Rattle.search.specs.Loans.{start}
use Rattle.search.proofs.Leaving.{law_same}
use Rattle.search.proofs.search.search.Goals as goal

pub run-outcome-requires-clause-stands : goal.run-outcome-requires-clause-stands
run-outcome-requires-clause-stands g c =
    let e = c.args.est.now in
    let x = c.begin.new.self in
    let t = g.Q.Queue.pairs c.args.queue.now in
    let u = g.Q.Queue.pairs x.queue.now in
    let a = c.in_ok-accept.ensures in
    let b = begun (problem c.args.task.now) c.args.start.now (g.E.Estimator.value e) (g.E.Estimator.agrees e) c.args.rows.now x.rows.now t u a.queue.empty (omega (arith, a.rows.some)) a.rows.few a.queue.space c.begin.ensures.after in
    subst (λ n. Standing (problem x.task.now) (start x) (board x.rows.now u n)) (sym c.begin.ensures.used)
    (subst₂ (λ q z. Standing (problem q.now) z (board x.rows.now u 1)) (sym c.begin.ensures.leaves.same.task) (sym b.stands.kept.base.start) b.stands)

pub returns-clause-law : goal.returns-clause-law
returns-clause-law g c =
    let p = problem c.args.task.now in
    let state = c.args.start.now in
    let rows = c.args.rows.now in
    let t = g.Q.Queue.pairs c.args.queue.now in
    let e0 = c.args.est.now in
    let x = c.begin.new.self in
    let e1 = x.est.now in
    let v = g.E.Estimator.value in
    let agrees = g.E.Estimator.agrees in
    let sound = g.Q.Queue.sound in
    let a = c.in_ok-accept.ensures in
    let mid = x.rows.now in
    let u = g.Q.Queue.pairs x.queue.now in
    let b = begun p state (v e0) (agrees e0) rows mid t u a.queue.empty (omega (arith, a.rows.some)) a.rows.few a.queue.space c.begin.ensures.after in
    let d = c.empty.ensures in
    let o = c.run-outcome.result in
    let out = c.args.steps.now in
    let steps = c.run-outcome.new.steps in
    let last = c.run-outcome.new.self.rows.now in
    let m = g.Q.Queue.pairs c.run-outcome.new.self.queue.now in
    let n = g.Q.Queue.pairs c.empty.new.queue in
    let begins = c.begin.ensures.leaves in
    let leaves = begins.leaves in
    let r = subst₂ (λ q z. Ran (problem q.now) z (v e1) (agrees e1 × Told (v e1) (view mid x.used)) (sound x.queue.now) (memory mid out u) (memory last steps m) o) begins.same.task b.stands.kept.base.start c.run-outcome.ensures.ran in
    let trust : agrees e0 → agrees e1 × Told (v e1) (view mid x.used) =
    λ h. (leaves.still_agrees h, subst (λ k. Told (v e1) (view mid k)) (sym c.begin.ensures.used) (told_like (v e0) (v e1) (view mid 1) (λ s. sym (leaves.same_value s)) (b.told h))) in
    let says = says_map p (standing state) (agrees e0) (agrees e1 × Told (v e1) (view mid x.used)) (sound c.args.queue.now) (sound x.queue.now) rows mid last out steps t u m n b.long o trust begins.keeps r.says in (
      a,
      law_same _ last _ n (search rules) (search rules) (record {
        says = says;
        enough = never_full p (standing state) (agrees e0) (sound c.args.queue.now) (memory rows out t) (memory last steps n) o r.recorded says;
        memory = record {
          recorded = r.recorded;
          reached = reached p (standing state) (view last (used_of o)) r.recorded;
          told = λ h. told_like (v e1) (v e0) (view last (used_of o)) leaves.same_value (r.told (trust h));
          thrifty = λ h z. r.thrifty (trust h) (begins.keeps z);
          long = r.long ∙ b.long;
          fits = omega (arith, r.fits, b.long);
          rest = λ k le. r.rest k le ∙ b.rest k (omega (arith, r.recorded.some));
          queue = d.after ∙ ap (λ k. replicate k None) (r.space ∙ b.space);
        };
      }),
    )
