use Rattle.std.proofs.Common.{◌≡◌, ◌-◌, ◌+◌, suc, length, take, arith}
use Rattle.std.proofs.lemmas.List.{length-take-le}
use Rattle.estimator.proofs.Fronts.{fronted}
use Rattle.estimator.proofs.places.to_front.Goals as goal

pub returns-clause-front : goal.returns-clause-front
returns-clause-front c one is =
    let l = c.args.kept.now in
    let at = c.args.at in
    let long = length-take-le (at + 1) l (omega (arith, c.requires)) in
    let back : length (take (at + 1) l) - 1 ≡ at = omega (arith, long) in
    fronted l at (at + 1) (length (take (at + 1) l) - 1) one c.rotate_right.new.self (omega arith) back is c.rotate_right.ensures.after
