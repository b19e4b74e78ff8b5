-- Lemmas on what a queue holds and on orders. Assumes nothing.
use Rattle.std.proofs.Common.{◌≡◌, ℕ, zero, suc, ◌+◌, ◌-◌, ◌<◌, ◌≤◌, Bool, true, false, List, [], ◌∷◌, ◌++◌, length, take, set, replicate, Some, None, Option, sym, refl, ap, ◌∙◌, ⊎_elim, arith}
use lib.Seq.{take-nil}
use Rattle.std.proofs.lemmas.List.{get_or_past}
use Rattle.queue.specs.Keys.{Orders}
use Rattle.queue.specs.Queues.{at, held, vacant, count}

pub differ : true ≡ false → ⊥
differ h = let z : ◌≡◌ {A = ℕ} 0 1 = cc in omega arith

module _ {K : Type 0} where
  pub none_some : {o : Option K} {x : K} → o ≡ None → o ≡ Some x → ⊥
  none_some p q = let z : ◌≡◌ {A = ℕ} 0 1 = cc in omega arith

  pub some_some : {o : Option K} {x y : K} → o ≡ Some x → o ≡ Some y → x ≡ y
  some_some p q = cc

  -- nothing is held at or above the capacity
  pub at_past : (t : List (Option K)) (i : ℕ) → length t ≤ i → at t i ≡ None
  at_past t i h = get_or_past t i None h

  -- what is held is below the capacity
  pub at_within : (t : List (Option K)) (i : ℕ) (x : K) → at t i ≡ Some x → i < length t
  at_within [] i x e = absurd (none_some {x = x} refl e)
  at_within (y ∷ t) zero x e = omega arith
  at_within (y ∷ t) (suc i) x e = let h = at_within t i x e in omega arith

  pub held_within : (t : List (Option K)) (i : ℕ) → held t i ≡ true → i < length t
  held_within [] i e = absurd (differ (sym e))
  held_within (y ∷ t) zero e = omega arith
  held_within (y ∷ t) (suc i) e = let h = held_within t i e in omega arith

  -- what is held with one pair removed was held before
  pub at_without : (t : List (Option K)) (i j : ℕ) (x : K) → at (set t i None) j ≡ Some x → at t j ≡ Some x
  at_without [] i j x e = e
  at_without (y ∷ t) zero zero x e = absurd (none_some {x = x} refl e)
  at_without (y ∷ t) zero (suc j) x e = e
  at_without (y ∷ t) (suc i) zero x e = e
  at_without (y ∷ t) (suc i) (suc j) x e = at_without t i j x e

  pub empty_vacant : (t : List (Option K)) → ((i : ℕ) → at t i ≡ None) → vacant t ≡ true
  empty_vacant [] e = refl
  empty_vacant (None ∷ t) e = empty_vacant t (λ j. e (suc j))
  empty_vacant (Some k ∷ t) e = absurd (none_some {x = k} (e 0) refl)

  pub vacant_empty : (t : List (Option K)) → vacant t ≡ true → (i : ℕ) → at t i ≡ None
  vacant_empty [] e j = refl
  vacant_empty (None ∷ t) e zero = refl
  vacant_empty (None ∷ t) e (suc j) = vacant_empty t e j
  vacant_empty (Some k ∷ t) e j = absurd (differ (sym e))

  pub not_vacant : (t : List (Option K)) (i : ℕ) (x : K) → at t i ≡ Some x → vacant t ≡ false
  not_vacant [] i x e = absurd (none_some {x = x} refl e)
  not_vacant (None ∷ t) zero x e = absurd (none_some {x = x} refl e)
  not_vacant (None ∷ t) (suc i) x e = not_vacant t i x e
  not_vacant (Some k ∷ t) i x e = refl

  -- a queue that holds nothing is as it was made
  pub vacant_fresh : (t : List (Option K)) → vacant t ≡ true → t ≡ replicate (length t) None
  vacant_fresh [] e = refl
  vacant_fresh (None ∷ t) e = ap (λ l. None ∷ l) (vacant_fresh t e)
  vacant_fresh (Some k ∷ t) e = absurd (differ (sym e))

  pub count_taken : (t : List (Option K)) (i : ℕ) (x : K) → at t i ≡ Some x → count (set t i None) + 1 ≡ count t
  count_taken [] i x e = absurd (none_some {x = x} refl e)
  count_taken (None ∷ t) zero x e = absurd (none_some {x = x} refl e)
  count_taken (Some k ∷ t) zero x e = omega arith
  count_taken (None ∷ t) (suc i) x e = count_taken t i x e
  count_taken (Some k ∷ t) (suc i) x e = let h = count_taken t i x e in omega arith

  pub count_within : (t : List (Option K)) → count t ≤ length t
  count_within [] = omega arith
  count_within (None ∷ t) = let h = count_within t in omega arith
  count_within (Some k ∷ t) = let h = count_within t in omega arith

  module _ {leq : K → K → Bool} (o : Orders leq) where
    pub leq_refl : (x : K) → leq x x ≡ true
    leq_refl x = ⊎_elim (λ h. h) (λ h. h) (o.total x x)

    pub not_leq : (x y : K) → leq x y ≡ false → leq y x ≡ true
    not_leq x y e = ⊎_elim (λ h. absurd (differ (sym h ∙ e))) (λ h. h) (o.total x y)

-- what a resize of nothing makes
pub fresh : {X : Type 0} (n m : ℕ) (xs : List X) (x : X) → xs ≡ [] → m ≡ 0 → take n xs ++ replicate (n - m) x ≡ replicate n x
fresh n m xs x e f =
    let z : n - m ≡ n = omega arith in
    ap (λ y. take n y ++ replicate (n - m) x) e ∙ ap (λ y. y ++ replicate (n - m) x) (take-nil n) ∙ ap (λ y. replicate y x) z
