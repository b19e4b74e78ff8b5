-- The first number of which a test holds.
use Rattle.std.proofs.Common.{◌≡◌, ℕ, zero, suc, ◌<◌, Bool, true, false, cond, Some, None, Option, refl, ap, ◌∙◌, ⊎_elim, arith}
use Rattle.std.proofs.lemmas.Bool.{cases_lt}
use Rattle.textspec.specs.First.{first, or_else}

pub first_none : (p : ℕ → Bool) (n : ℕ) → ((k : ℕ) → k < n → p k ≡ false) → first p n ≡ None
first_none p zero h = refl
first_none p (suc n) h =
    ap (λ o. or_else o (cond (p n) (Some n) None)) (first_none p n (λ k l. h k (omega arith))) ∙ ap (λ b. cond b (Some n) None) (h n (omega arith))

pub first_some : (p : ℕ → Bool) (n k : ℕ) → k < n → ((j : ℕ) → j < k → p j ≡ false) → p k ≡ true → first p n ≡ Some k
first_some p zero k l h e = absurd (omega arith)
first_some p (suc n) k l h e =
    ⊎_elim
    (λ m. ap (λ o. or_else o (cond (p n) (Some n) None)) (first_some p n k m h e))
    (λ m. let q : n ≡ k = omega arith in
    ap (λ o. or_else o (cond (p n) (Some n) None)) (first_none p n (λ j i. h j (omega arith)))
    ∙ ap (λ i. cond (p i) (Some i) None) q ∙ ap (λ b. cond b (Some k) None) e)
    (cases_lt k n)

pub first_none_at : (p : ℕ → Bool) (n k : ℕ) → first p n ≡ None → k < n → p k ≡ false
first_none_at p zero k e l = absurd (omega arith)
first_none_at p (suc n) k e l =
    let parts = split (first p n) (p n) n e in
    ⊎_elim (λ m. first_none_at p n k parts.0 m) (λ m. let q : k ≡ n = omega arith in ap p q ∙ parts.1) (cases_lt k n)
  where
    split : (o : Option ℕ) (b : Bool) (n : ℕ) → or_else o (cond b (Some n) None) ≡ None → (o ≡ None) × (b ≡ false)
    split (Some x) b n e = let z : ◌≡◌ {A = ℕ} 0 1 = cc in absurd (omega arith)
    split None true n e = let z : ◌≡◌ {A = ℕ} 0 1 = cc in absurd (omega arith)
    split None false n e = (refl, refl)

pub first_below : (p : ℕ → Bool) (n k : ℕ) → first p n ≡ Some k → k < n
first_below p zero k e = let z : ◌≡◌ {A = ℕ} 0 1 = cc in absurd (omega arith)
first_below p (suc n) k e = found (first p n) (λ x q. first_below p n x q) e
  where
    here : (b : Bool) → cond b (Some n) None ≡ Some k → k < suc n
    here true e = let q : n ≡ k = cc in omega arith
    here false e = let z : ◌≡◌ {A = ℕ} 0 1 = cc in absurd (omega arith)

    found : (o : Option ℕ) → ((x : ℕ) → o ≡ Some x → x < n) → or_else o (cond (p n) (Some n) None) ≡ Some k → k < suc n
    found (Some x) below e = let l = below x refl in let h : x ≡ k = cc in omega arith
    found None below e = here (p n) e
