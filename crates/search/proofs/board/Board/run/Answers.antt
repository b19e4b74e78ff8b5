use Rattle.std.proofs.Common.{ℕ, ◌<◌, ◌≤◌, [], length, get_or, drop, set, None, sym, ap, ◌∙◌, subst, subst₂, arith, length-set}
use Rattle.std.proofs.lemmas.Bool.Decides.{not_from_Decides}
use Rattle.model.specs.Strips.{Goal, Plan}
use Rattle.strips.specs.Standing.{standing}
use Rattle.strips.specs.Tasks.{problem}
use Rattle.search_theory.specs.Rows.{Told}
use Rattle.search_theory.specs.Measure.{potential}
use Rattle.search_law.specs.Views.{view, queued}
use Rattle.search_law.specs.Boards.{board, Turning, Standing, Overfull, Moves}
use Rattle.search_law.proofs.Successors.{any}
use Rattle.search_law.proofs.Takes.{opened_row, taken_within, in_rows, goal_taken, taken_short, all_opened, nothing_left, now_open}
use Rattle.search_law.proofs.Traces.{back_plan}
use Rattle.search_law.proofs.Endings.{told_like}
use Rattle.search.specs.Loans.{start}
use Rattle.search.proofs.Leaving.{leaves_trans}
use Rattle.search.proofs.board.Board.run.Goals as goal

pub returns-clause-ran : goal.returns-clause-ran
returns-clause-ran g c =
    let b = c.args.self.now in
    let x = c.loop-i.self in
    let p = problem b.task.now in
    let inv = c.loop-i.invariant in
    let h = c.in_default.ensures in
    let law = g.met.E.Estimator.admissible b.est.now p c.requires.fits in
    record {
      says = record {
        none = λ agrees. nothing_left p (start b) x.rows.now _ x.used inv.0 h.after.0 (g.E.Estimator.value b.est.now) law (inv.7 agrees);
        opened = all_opened p (start b) x.rows.now _ x.used inv.0 h.after.0;
        met = inv.0.kept.met;
        steps = inv.5;
      };
      recorded = inv.0.kept.base;
      told = inv.7;
      thrifty = inv.8;
      long = inv.3;
      fits = omega (arith, inv.0.sized.tree.fits, inv.3);
      rest = inv.1;
      space = ap length h.after.1 ∙ inv.4;
    }

pub returns-then-has_goal-clause-ran : goal.returns-then-has_goal-clause-ran
returns-then-has_goal-clause-ran g c =
    let b = c.args.self.now in
    let x = c.loop-i.self in
    let p = problem b.task.now in
    let s = start b in
    let rows = x.rows.now in
    let t = g.Q.Queue.pairs x.queue.now in
    let used = x.used in
    let i = c.in-Some.i in
    let k = c.in-Some.field-0-1 in
    let inv = c.loop-i.invariant in
    let h = c.in-Some.ensures in
    let n = c.depth-length.result in
    let law = g.met.E.Estimator.admissible b.est.now p c.requires.fits in
    let v = g.E.Estimator.value b.est.now in
    let lt = taken_within p s rows t used i k inv.0 h.after.1 in
    let e = any rows i c.index-rows-i.result (in_rows p s rows t used i k inv.0 h.after.1) in
    let goal = subst₂ (λ q w. Goal (problem q.now) (standing w.state)) inv.6.same.task e (c.has_goal.ensures.0 c.if-has_goal.true) in
    let low = inv.0.kept.base.low i lt in
    record {
      says = record {
        fits = omega (arith, c.depth-length.ensures.low, low, inv.0.sized.tree.fits, inv.3, c.requires.room);
        plan = subst (Plan p s) (sym c.trace.ensures.front) (back_plan p s rows used inv.0.kept.base n i [] lt c.depth-length.ensures.far (tt, goal));
        shortest = λ agrees sound acts plan. omega (arith, c.depth-length.ensures.low, taken_short p s rows t used i k inv.0 h.after.1 v law (inv.7 agrees) (h.least (inv.6.keeps sound)) acts plan);
        rest = c.trace.ensures.rest ∙ ap (drop n) inv.5;
        taken = (i, goal_taken p s rows t used i k inv.0 h.after.1 (g.Q.Queue.sound b.queue.now) (λ sound. h.least (inv.6.keeps sound)) goal n c.depth-length.ensures.low);
        met = inv.0.kept.met;
      };
      recorded = inv.0.kept.base;
      told = inv.7;
      thrifty = inv.8;
      long = inv.3;
      fits = omega (arith, inv.0.sized.tree.fits, inv.3);
      rest = inv.1;
      space = ap length h.after.2 ∙ length-set t i None ∙ inv.4;
    }

pub open-requires : goal.open-requires
open-requires g c =
    let b = c.args.self.now in
    let x = c.loop-i.self in
    let p = problem b.task.now in
    let s = start b in
    let rows = x.rows.now in
    let t = g.Q.Queue.pairs x.queue.now in
    let used = x.used in
    let i = c.in-Some.i in
    let k = c.in-Some.field-0-1 in
    let inv = c.loop-i.invariant in
    let h = c.in-Some.ensures in
    let inside = in_rows p s rows t used i k inv.0 h.after.1 in
    let e = any rows i c.index-rows-i.result inside in
    let f = any rows i c.index-rows-i-in-Some.result inside in
    let mid = set rows i (opened_row (get_or rows i c.index-rows-i-in-Some.result)) in
    let u = g.Q.Queue.pairs c.take.new.self in
    let short = subst₂ (λ q w. Goal (problem q.now) (standing w.state) → ⊥) inv.6.same.task e (not_from_Decides _ c.has_goal.ensures c.if-has_goal.false) in
    let o = now_open p s rows t used i k inv.0 h.after.1 short mid u (ap (λ w. set rows i (opened_row w)) f) h.after.2 in
    record { turn = subst₂ (λ q z. Turning (problem q.now) z (board mid u used) i 0) (sym inv.6.same.task) (sym o.turn.turn.base.start) o.turn }

pub returns-in-Err-clause-ran : goal.returns-in-Err-clause-ran
returns-in-Err-clause-ran g c =
    let b = c.args.self.now in
    let x = c.loop-i.self in
    let p = problem b.task.now in
    let s = start b in
    let rows = x.rows.now in
    let t = g.Q.Queue.pairs x.queue.now in
    let used = x.used in
    let i = c.in-Some.i in
    let k = c.in-Some.field-0-1 in
    let inv = c.loop-i.invariant in
    let h = c.in-Some.ensures in
    let inside = in_rows p s rows t used i k inv.0 h.after.1 in
    let e = any rows i c.index-rows-i.result inside in
    let f = any rows i c.index-rows-i-in-Some.result inside in
    let mid = set rows i (opened_row (get_or rows i c.index-rows-i-in-Some.result)) in
    let u = g.Q.Queue.pairs c.take.new.self in
    let short = subst₂ (λ q w. Goal (problem q.now) (standing w.state) → ⊥) inv.6.same.task e (not_from_Decides _ c.has_goal.ensures c.if-has_goal.false) in
    let o = now_open p s rows t used i k inv.0 h.after.1 short mid u (ap (λ w. set rows i (opened_row w)) f) h.after.2 in
    let y = c.in-Err.ensures in
    let z = c.open.new.self in
    let after = board z.rows.now (g.Q.Queue.pairs z.queue.now) z.used in
    let v = g.E.Estimator.value b.est.now in
    let w = g.E.Estimator.value x.est.now in
    let same = inv.6.same.task in
    let begins = o.turn.turn.base.start in
    let mv = subst₂ (λ q n. Moves (problem q.now) n w (g.E.Estimator.agrees x.est.now) (board mid u used) after) same begins y.moves in
    let law = g.met.E.Estimator.admissible b.est.now p c.requires.fits in
    let like = inv.6.leaves.same_value in
    let told : g.E.Estimator.agrees b.est.now × Told v (view b.rows.now b.used) → Told v (view z.rows.now z.used) =
    λ agrees. told_like w v (view z.rows.now z.used) like (mv.told (inv.6.leaves.still_agrees agrees.0) (told_like v w (view mid used) (λ n. sym (like n)) (o.told v (inv.7 agrees)))) in
    let (a, over) = subst₂ (λ q n. (a : ℕ) × Overfull (problem q.now) n after i a) same begins y.turn in
    let long = mv.long ∙ o.long ∙ inv.3 in
    record {
      says = record { full = over.full ∙ long; new = (i, a, over.over); steps = inv.5 };
      recorded = over.base;
      told = told;
      thrifty = λ agrees sound. mv.thrifty (o.thrifty v law (inv.7 agrees) (h.least (inv.6.keeps sound)) (inv.8 agrees sound));
      long = long;
      fits = omega (arith, mv.fits, o.long, inv.3);
      rest = λ n le. mv.rest n le ∙ o.rest n (omega (arith, mv.more)) ∙ inv.1 n (omega (arith, mv.more));
      space = mv.space ∙ o.space ∙ inv.4;
    }

pub loop-i-preserved : goal.loop-i-preserved
loop-i-preserved g c =
    let b = c.args.self.now in
    let x = c.loop-i.self in
    let p = problem b.task.now in
    let s = start b in
    let rows = x.rows.now in
    let t = g.Q.Queue.pairs x.queue.now in
    let used = x.used in
    let i = c.in-Some.i in
    let k = c.in-Some.field-0-1 in
    let inv = c.loop-i.invariant in
    let h = c.in-Some.ensures in
    let inside = in_rows p s rows t used i k inv.0 h.after.1 in
    let e = any rows i c.index-rows-i.result inside in
    let f = any rows i c.index-rows-i-in-Some.result inside in
    let mid = set rows i (opened_row (get_or rows i c.index-rows-i-in-Some.result)) in
    let u = g.Q.Queue.pairs c.take.new.self in
    let short = subst₂ (λ q w. Goal (problem q.now) (standing w.state) → ⊥) inv.6.same.task e (not_from_Decides _ c.has_goal.ensures c.if-has_goal.false) in
    let o = now_open p s rows t used i k inv.0 h.after.1 short mid u (ap (λ w. set rows i (opened_row w)) f) h.after.2 in
    let y = c.in-Ok.ensures in
    let z = c.open.new.self in
    let after = board z.rows.now (g.Q.Queue.pairs z.queue.now) z.used in
    let v = g.E.Estimator.value b.est.now in
    let w = g.E.Estimator.value x.est.now in
    let same = inv.6.same.task in
    let begins = o.turn.turn.base.start in
    let mv = subst₂ (λ q n. Moves (problem q.now) n w (g.E.Estimator.agrees x.est.now) (board mid u used) after) same begins y.moves in
    let law = g.met.E.Estimator.admissible b.est.now p c.requires.fits in
    let like = inv.6.leaves.same_value in
    let told : g.E.Estimator.agrees b.est.now × Told v (view b.rows.now b.used) → Told v (view z.rows.now z.used) =
    λ agrees. told_like w v (view z.rows.now z.used) like (mv.told (inv.6.leaves.still_agrees agrees.0) (told_like v w (view mid used) (λ n. sym (like n)) (o.told v (inv.7 agrees)))) in
    let kept = y.leaves.same in (
      subst₂ (λ q n. Standing (problem q.now) n after) same begins y.turn,
      λ n le. mv.rest n le ∙ o.rest n (omega (arith, mv.more)) ∙ inv.1 n (omega (arith, mv.more)),
      omega (arith, mv.more, inv.2),
      mv.long ∙ o.long ∙ inv.3,
      mv.space ∙ o.space ∙ inv.4,
      inv.5,
      record {
        same = record { task = kept.task ∙ same; est = kept.est ∙ inv.6.same.est; queue = kept.queue ∙ inv.6.same.queue; rows = kept.rows ∙ inv.6.same.rows };
        leaves = leaves_trans inv.6.leaves y.leaves.leaves;
        keeps = λ n. y.leaves.keeps (h.keeps (inv.6.keeps n));
      },
      told,
      λ agrees sound. mv.thrifty (o.thrifty v law (inv.7 agrees) (h.least (inv.6.keeps sound)) (inv.8 agrees sound)),
    )

pub loop-i-smaller : goal.loop-i-smaller
loop-i-smaller g c =
    let b = c.args.self.now in
    let x = c.loop-i.self in
    let p = problem b.task.now in
    let s = start b in
    let rows = x.rows.now in
    let t = g.Q.Queue.pairs x.queue.now in
    let used = x.used in
    let i = c.in-Some.i in
    let k = c.in-Some.field-0-1 in
    let inv = c.loop-i.invariant in
    let h = c.in-Some.ensures in
    let inside = in_rows p s rows t used i k inv.0 h.after.1 in
    let e = any rows i c.index-rows-i.result inside in
    let f = any rows i c.index-rows-i-in-Some.result inside in
    let mid = set rows i (opened_row (get_or rows i c.index-rows-i-in-Some.result)) in
    let u = g.Q.Queue.pairs c.take.new.self in
    let short = subst₂ (λ q w. Goal (problem q.now) (standing w.state) → ⊥) inv.6.same.task e (not_from_Decides _ c.has_goal.ensures c.if-has_goal.false) in
    let o = now_open p s rows t used i k inv.0 h.after.1 short mid u (ap (λ w. set rows i (opened_row w)) f) h.after.2 in
    let y = c.in-Ok.ensures in
    let z = c.open.new.self in
    let after = board z.rows.now (g.Q.Queue.pairs z.queue.now) z.used in
    let v = g.E.Estimator.value b.est.now in
    let w = g.E.Estimator.value x.est.now in
    let same = inv.6.same.task in
    let begins = o.turn.turn.base.start in
    let mv = subst₂ (λ q n. Moves (problem q.now) n w (g.E.Estimator.agrees x.est.now) (board mid u used) after) same begins y.moves in
    let seen = view z.rows.now z.used in
    let q = queued (g.Q.Queue.pairs z.queue.now) in
    let down = subst (λ n. potential n seen q ≤ potential n (view mid used) (queued u)) o.long mv.falls in
    subst (λ n. potential n seen q < potential (length rows) (view rows used) (queued t)) (sym (mv.long ∙ o.long)) (omega (arith, down, o.falls))
