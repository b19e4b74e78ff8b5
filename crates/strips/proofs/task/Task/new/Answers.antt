use Rattle.std.proofs.Common.{◌≡◌, None, vec_items, sym, ap, ◌∙◌, arith}
use Rattle.strips.specs.Lists.{listed}
use Rattle.strips.specs.Tasks.{flaw}
use Rattle.strips.proofs.Keeping.{unflawed}
use Rattle.strips.proofs.task.Task.new.Goals as goal

pub invariant_of-result : goal.invariant_of-result
invariant_of-result c =
    let n = c.args.facts in
    let none : flaw n (vec_items c.args.actions) (listed c.args.goal) (listed c.args.start) ≡ None =
    ap (λ l. flaw n l (listed c.args.goal) (listed c.args.start)) (sym c.as_slice.ensures.value) ∙ sym c.in-None.ensures in
    let u = unflawed n (vec_items c.args.actions) (listed c.args.goal) (listed c.args.start) none in
    record {
      some = u.some;
      low = omega arith;
      few = omega (arith, u.few, c.args.actions.ok.0);
      fit = u.fit;
      goal_known = rw c.new.ensures u.goal_known;
      start_known = u.start_known;
    }
