use Rattle.std.proofs.Common.{◌<◌, length, refl, inl, subst}
use Rattle.strips.specs.Standing.{standing}
use Rattle.estimator.specs.Keeps.{kept, Placed}
use Rattle.estimator.proofs.Asks.{again_lent, again_right}
use Rattle.estimator.proofs.keeps.KeepingEstimator.estimate.Goals as goal

pub returns-in-Some-clause-keeps : goal.returns-in-Some-clause-keeps
returns-in-Some-clause-keeps g c =
    let l = kept c.args.self.now in
    let at = c.in-Some.at in
    let state = c.args.state.now in
    let p = subst (λ m. (at < length m) × Placed m (standing state) at) c.deref.ensures.0 c.in-Some.ensures in
    inl (again_lent l c.deref_mut.result.now c.to_front.new.kept c.deref-in-Some.result.now at state c.index-deref-at.result c.deref_mut.ensures.value c.deref-in-Some.ensures.0 c.to_front.ensures.long p c.to_front.ensures.front)

pub returns-in-Some-clause-leaves : goal.returns-in-Some-clause-leaves
returns-in-Some-clause-leaves g c =
    let k = c.args.self.now in
    let l = kept k in
    let at = c.in-Some.at in
    let state = c.args.state.now in
    let p = subst (λ m. (at < length m) × Placed m (standing state) at) c.deref.ensures.0 c.in-Some.ensures in
    let a = again_lent l c.deref_mut.result.now c.to_front.new.kept c.deref-in-Some.result.now at state c.index-deref-at.result c.deref_mut.ensures.value c.deref-in-Some.ensures.0 c.to_front.ensures.long p c.to_front.ensures.front in
    record { still_fits = λ _ h. h; fitted = λ _ h. h; same_value = λ _. refl; still_agrees = λ h. record { inner = h.inner; right = again_right (g.E.Estimator.value k.inner) l _ state _ h.right a } }
