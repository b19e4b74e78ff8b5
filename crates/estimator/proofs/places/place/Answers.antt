use Rattle.std.proofs.Common.{◌≡◌, rules}
use Rattle.std.proofs.lemmas.Iterator.{IsFirst-from_position, YieldsList-from_slice}
use borrow.Author.Tests.{tests}
use Rattle.strips.specs.Standing.{standing}
use Rattle.estimator.proofs.Asks.{place_of}
use Rattle.estimator.proofs.places.place.Goals as goal

pub returns : goal.returns
returns c =
    let s = standing c.args.state.now in
    place_of c.args.kept.now s c.position.result
    (IsFirst-from_position _ _ c.position.result (λ w. standing w.state ≡ s) (λ w. standing w.state ≡ s → ⊥) c.position.ensures.ran (YieldsList-from_slice c.args.kept.now c.iter.ensures.rest) (λ x q k. search (rules, tests)) (λ x q k. search (rules, tests)))
