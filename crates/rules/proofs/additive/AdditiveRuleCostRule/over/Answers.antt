use Rattle.std.proofs.Common.{rules}
use Rattle.std.proofs.lemmas.Iterator.{YieldsList-from_slice}
use Rattle.std.proofs.lemmas.Fn.{fold_over, fronts}
use Rattle.model.specs.Figures.{table}
use Rattle.rules.proofs.Folds.{Summed, summed_none, summed_more, summed_all}
use Rattle.rules.proofs.additive.AdditiveRuleCostRule.over.Goals as goal

pub returns : goal.returns
returns c =
    let x = table c.args.figures.now in
    summed_all x c.args.items.now c.fold.result
    (fold_over fronts (λ y. y.now) _ (Summed x) _ (λ done a y b f so_far called. (summed_more x done y.now a b so_far (search rules), search rules))
    c.iter.result c.args.items.now c.of.result c.fold.result (YieldsList-from_slice {s = c.iter.result} c.args.items.now cc).runs (summed_none x c.of.result (search rules)) c.fold.ensures.ran)
