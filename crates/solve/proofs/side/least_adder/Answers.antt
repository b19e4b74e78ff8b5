use Rattle.std.proofs.Common.{◌≡◌, ℕ, min, List, ◌∙◌, sym, refl, arith, rules}
use Rattle.std.specs.List.{range_with_len}
use Rattle.std.proofs.iter.Yields.{nat_range_steps}
use Rattle.std.proofs.lemmas.Iterator.{YieldsList-from_range}
use Rattle.std.proofs.lemmas.Fn.{fold_over}
use Rattle.figure.specs.declared.figure.Figure.{Figure}
use Rattle.figure.specs.declared.figure.Figure.TheVariants.{None}
use Rattle.figure.specs.Ranks.{rank}
use Rattle.model.specs.Figures.{table, least}
use Rattle.strips.specs.Tasks.{problem}
use Rattle.solve.proofs.Items.{adder_value, adder_low, least_push, least_adders}
use Rattle.solve.proofs.side.least_adder.Goals as goal

pub returns : goal.returns
returns c =
    let p = problem c.args.task.now in
    let y = adder_value p (table c.args.figures.now) c.args.fact in
    let n = c.action_count.result in
    let J : List ℕ → Figure → Type 0 = λ ks best. least y ks ≡ rank best in
    let told : J (range_with_len 0 n) c.fold.result =
    fold_over nat_range_steps (λ k. k) _ J _
    (λ ks a k b q so_far called. (let e : (rank b ≡ min (rank a) (y k)) = search rules in least_push y ks k (rank a) so_far (adder_low p c.args.figures.now c.args.fact k) ∙ sym e, search rules))
    (record { start = 0; end = n }) (range_with_len 0 n) None c.fold.result
    (YieldsList-from_range {s = record { start = 0; end = n }} 0 n n refl (omega arith)).runs refl c.fold.ensures.ran in
    sym told ∙ least_adders p (table c.args.figures.now) c.args.fact n c.action_count.ensures.is
