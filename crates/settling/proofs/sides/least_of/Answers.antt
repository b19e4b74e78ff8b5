use Rattle.std.proofs.Common.{◌≡◌, ℕ, min, List, sym, refl, rules}
use Rattle.std.proofs.lemmas.Iterator.{YieldsList-from_slice}
use Rattle.std.proofs.lemmas.Fn.{fold_over, fronts}
use Rattle.figure.specs.declared.figure.Figure.{Figure}
use Rattle.figure.specs.declared.figure.Figure.TheVariants.{None}
use Rattle.figure.specs.Ranks.{rank}
use Rattle.model.specs.Figures.{table, least}
use Rattle.settling.proofs.Loops.{least_push}
use Rattle.settling.proofs.sides.least_of.Goals as goal

pub returns : goal.returns
returns c =
    let l = c.args.figures.now in
    let J : List ℕ → Figure → Type 0 = λ qs best. least (table l) qs ≡ rank best in
    sym (fold_over fronts (λ y. y.now) _ J _
    (λ qs a y b f so_far called. (let e : (rank b ≡ min (rank a) (table l y.now)) = search rules in least_push l qs y.now (rank a) (rank b) so_far e, search rules))
    c.iter.result c.args.items.now None c.fold.result (YieldsList-from_slice {s = c.iter.result} c.args.items.now cc).runs refl c.fold.ensures.ran)
