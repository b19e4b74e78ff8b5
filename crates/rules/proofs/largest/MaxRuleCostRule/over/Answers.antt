use Rattle.std.proofs.Common.{rules}
use Rattle.std.proofs.lemmas.Iterator.{YieldsList-from_slice}
use Rattle.std.proofs.lemmas.Fn.{fold_over, fronts}
use Rattle.model.specs.Figures.{table}
use Rattle.rules.proofs.Folds.{Largest, largest_none, largest_more, largest_all}
use Rattle.rules.proofs.largest.MaxRuleCostRule.over.Goals as goal

pub returns : goal.returns
returns c =
    let x = table c.args.figures.now in
    largest_all x c.args.items.now c.fold.result
    (fold_over fronts (λ y. y.now) _ (Largest x) _ (λ done a y b f so_far called. (largest_more x done y.now a b so_far (search rules), search rules))
    c.iter.result c.args.items.now c.of.result c.fold.result (YieldsList-from_slice {s = c.iter.result} c.args.items.now cc).runs (largest_none x c.of.result (search rules)) c.fold.ensures.ran)
