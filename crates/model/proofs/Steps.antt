-- What a step keeps, by ranks. Assumes nothing.
--
--   Keyed        each item is consistent or has both its values at or above k
--   Move         a step by ranks: an item of least key k is lowered to its right-hand side or raised to none
--   kept         through a step of key k each right-hand side is as it was, or above k before and after
--   left         how many changes an item has left, by its first value and its present one
use Rattle.std.proofs.Common.{◌≡◌, ℕ, zero, suc, ◌*◌, ◌<◌, ◌≤◌, cond, eqb, ◌≢◌, ◌⊎◌, sym, refl, ap, ◌∙◌, inl, inr, ⊎_elim, arith}
use Rattle.std.proofs.lemmas.Bool.{cases_lt, cases_eq, cond-true, cond-false, eq-eqb, ne_eqb}
use Rattle.figure.specs.Ranks.{top}
use Rattle.model.specs.Figures.{Table}
use Rattle.model.specs.Settling.{Keeps}
use Rattle.model.proofs.Causal.{System, alike, total}

abbrev pub Keyed : (Table → Table) → ℕ → Table → Type 0
Keyed F k x = (r : ℕ) → (x r ≡ F x r) ⊎ ((k ≤ x r) × (k ≤ F x r))

pub record Move (F : Table → Table) (x : Table) (q k : ℕ) (y : Table) : Type 0 where
  pub least : Keyed F k x
  pub way : ((F x q ≡ k) × (k < x q) × (y q ≡ k)) ⊎ ((x q ≡ k) × (k < F x q) × (y q ≡ top))
  pub rest : (r : ℕ) → r ≢ q → y r ≡ x r

module _ (n : ℕ) (F : Table → Table) (s : System n F) where
  module _ (x : Table) (q k : ℕ) (y : Table) (t : Move F x q k y) where
    to : (r : ℕ) → x r < k → y r ≡ x r
    to r l = t.rest r (λ e. omega (arith, t.way, ap x e))

    from : (r : ℕ) → y r < k → x r ≡ y r
    from r l = sym (t.rest r (λ e. omega (arith, t.way, ap y e, s.bound x q)))

    pub kept : (r : ℕ) → (F y r ≡ F x r) ⊎ ((k < F x r) × (k < F y r))
    kept = alike F s.causal x y k to from

    here : (y q ≡ F y q) ⊎ ((k ≤ y q) × (k ≤ F y q))
    here =
        ⊎_elim (λ lower. inl (omega (arith, kept q))) (λ raise. inr (omega (arith, kept q, s.bound x q))) t.way

    other : (r : ℕ) → y r ≡ x r → (y r ≡ F y r) ⊎ ((k ≤ y r) × (k ≤ F y r))
    other r e =
        ⊎_elim (λ l. inl (omega (arith, kept r, t.least r))) (λ l. ⊎_elim (λ m. inl (omega (arith, kept r, t.least r))) (λ m. inr (l, m)) (cases_lt (F y r) k)) (cases_lt (y r) k)

    -- no key falls
    pub keyed : Keyed F k y
    keyed r = ⊎_elim (λ i. rw i here) (λ o. other r (t.rest r o)) (cases_eq r q)

    final : (r : ℕ) → x r ≡ F x r → x r ≤ k → (y r ≡ x r) × (y r ≡ F y r)
    final r e l =
        let same : y r ≡ x r = t.rest r (λ i. omega (arith, t.way, ap x i, ap (F x) i)) in
        omega (arith, kept r)

    pub keeps : Keeps F x k y
    keeps = record {
      keys = λ r. ⊎_elim inl (λ h. inr (omega arith)) (keyed r);
      final = final;
      above = λ r l h m. omega (arith, kept r);
    }

  -- the key of a step is no less than one that all keys are at or above
  pub rises : (x : Table) (q k l : ℕ) (y : Table) → Keyed F k x → Move F x q l y → k ≤ l
  rises x q k l y h t = omega (arith, h q, t.way)

-- ---- how many changes are left
unfoldable pub left : Table → Table → Table
left x₀ x r = cond (eqb (x r) (x₀ r)) 2 (cond (eqb (x r) top) 1 0)

pub left_two : (x₀ x : Table) (r : ℕ) → x r ≡ x₀ r → left x₀ x r ≡ 2
unfolding left
left_two x₀ x r e = cond-true _ _ _ (eq-eqb _ _ e)

pub left_one : (x₀ x : Table) (r : ℕ) → x r ≢ x₀ r → x r ≡ top → left x₀ x r ≡ 1
unfolding left
left_one x₀ x r n e = cond-false _ _ _ (ne_eqb _ _ n) ∙ cond-true _ _ _ (eq-eqb _ _ e)

pub left_none : (x₀ x : Table) (r : ℕ) → x r ≢ x₀ r → x r ≢ top → left x₀ x r ≡ 0
unfolding left
left_none x₀ x r n e = cond-false _ _ _ (ne_eqb _ _ n) ∙ cond-false _ _ _ (ne_eqb _ _ e)

pub left_fewer : (x₀ x : Table) (r : ℕ) → x r ≢ x₀ r → left x₀ x r < 2
left_fewer x₀ x r n = ⊎_elim (λ e. omega (arith, left_one x₀ x r n e)) (λ e. omega (arith, left_none x₀ x r n e)) (cases_eq (x r) top)

pub left_same : (x₀ x y : Table) (r : ℕ) → y r ≡ x r → left x₀ y r ≡ left x₀ x r
unfolding left
left_same x₀ x y r e = rw e

pub total_two : (n : ℕ) (x : Table) → total n (left x x) ≡ 2 * n
unfolding total
total_two zero x = refl
total_two (suc n) x = let a = left_two x x n refl in let b = total_two n x in omega arith
