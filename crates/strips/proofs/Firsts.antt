-- The first number of a range that passes a test. Assumes nothing.
use Rattle.std.proofs.Common.{◌≡◌, ℕ, ◌+◌, ◌-◌, ◌<◌, ◌≤◌, Bool, true, false, Option, Some, None, MatchOption, option_map, sym, refl, ap, ◌∙◌, subst, arith}
use Rattle.std.specs.Prelude.{IfSome, IsSomeAnd, IsTrue}
use Rattle.std.proofs.lemmas.Iterator.Adapters.{option_map_id}
use Rattle.std.specs.Fn.{CalledAt}
use Rattle.std.specs.Iterator.Runs.{Run, SomeRun, NoItemPasses, EndsAtFirstPassing, CallKeepsClosure, ItemsCountUp}
use Rattle.std.specs.Range.{range_inclusive_start, range_inclusive_end, range_inclusive_exhausted}
use Rattle.std.specs.declared.ops.RangeInclusive.{RangeInclusive}
use Rattle.std.proofs.iter.runs.Sources.{nat_range_inclusive_steps, inclusive_listed}
use denote.Param.Members.{Mut}
use denote.Ref.{Bor}

-- what holds of the item that there is
item_has : (P : ℕ → Type 0) (o : Option ℕ) (v : ℕ) → option_map (λ y. y) o ≡ Some v → IfSome o P → P v
item_has P o v e h = subst (λ o. IfSome o P) (sym (option_map_id o) ∙ e) h

item_and : (P : ℕ → Type 0) (o : Option ℕ) (v : ℕ) → option_map (λ y. y) o ≡ Some v → IsSomeAnd o P → P v
item_and P o v e h = subst (λ o. IsSomeAnd o P) (sym (option_map_id o) ∙ e) h

module _ {F : Type 0} (g : Mut F (Bor ℕ × Unit {0}) Bool) (f : F) (test : ℕ → Bool) (tests : (x : ℕ) (b : Bool) (q : F) → CalledAt g f x b q → (q ≡ f) × (b ≡ test x)) where
  keeps : CallKeepsClosure g f
  keeps a r q called = (tests a.0.now r q (record { shown = a.0; shows = refl; called = called })).0

  counts : (s : RangeInclusive ℕ) (p : Run nat_range_inclusive_steps) → p.from ≡ s → range_inclusive_exhausted s ≡ false → ItemsCountUp p (range_inclusive_start s) (range_inclusive_end s + 1)
  counts s p e z =
      let l = inclusive_listed p p.seen in
      let up = (l.4 (ap range_inclusive_exhausted e ∙ z)).0 in
      subst (λ a. ItemsCountUp p a (range_inclusive_end s + 1)) (l.2 ∙ ap range_inclusive_start e)
      (subst (λ b. ItemsCountUp p l.0 b) (l.3 ∙ ap (λ t. range_inclusive_end t + 1) e) up)

  pub first_passing : (s : RangeInclusive ℕ) (n m : ℕ) → range_inclusive_start s ≡ n → range_inclusive_end s ≡ m → range_inclusive_exhausted s ≡ false → (r : Option ℕ)
      → SomeRun nat_range_inclusive_steps s (λ u. MatchOption r (IsTrue u.whole × NoItemPasses u g f) (EndsAtFirstPassing u g f))
      → MatchOption r ((k : ℕ) → n ≤ k → k < m + 1 → test k ≡ false) (λ x. (n ≤ x) × (test x ≡ true) × ((k : ℕ) → n ≤ k → k < x → test k ≡ false))
  first_passing s n m en em z None h = λ k le lt.
      let up = counts s h.0 h.1 z in
      let a : range_inclusive_start s + (k - n) ≡ k = omega arith in
      let all : h.0.len ≡ range_inclusive_end s + 1 - range_inclusive_start s = up.1 h.2.0 in
      let at = up.3 (k - n) (omega arith) ∙ ap Some a in
      let called = item_has (λ x. CalledAt g f x false f) (h.0.at (k - n)) k at (h.2.1 keeps (k - n)) in
      sym (tests k false f called).1
  first_passing s n m en em z (Some x) h =
      let up = counts s h.0 h.1 z in
      let i = h.2.0 in
      let hit = h.2.3 keeps in
      let long = h.2.1 in
      let at = up.3 i (omega arith) in
      let is : x ≡ range_inclusive_start s + i = item_has (λ y. x ≡ y) (h.0.at i) (range_inclusive_start s + i) at (subst (λ o. IfSome o (λ y. x ≡ y)) (sym h.2.2) refl) in (
        omega arith,
        sym (tests x true f hit.0).1,
        λ k le lt.
            let a : range_inclusive_start s + (k - n) ≡ k = omega arith in
            let before = up.3 (k - n) (omega arith) ∙ ap Some a in
            let called = item_and (λ y. CalledAt g f y false f) (h.0.at (k - n)) k before (hit.1 (k - n) (omega arith)) in
            sym (tests k false f called).1,
      )
