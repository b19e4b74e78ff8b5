-- Right-hand sides that only what lies below them decides: one solution, reached by falling. Assumes nothing.
--
--   Causal      what lies below a right-hand side decides it
--   System      causal, with figures only, and none past the last item
--   compare     what falls under the equations is above what rises under them
--   one         exactly one solution
--   alike       where two tables agree below k, their right-hand sides agree or are both above k
--   total       the sum of the first n values
use Rattle.std.proofs.Common.{◌≡◌, ℕ, zero, suc, ◌+◌, ◌<◌, ◌≤◌, ◌≢◌, ◌⊎◌, sym, refl, ap, ◌∙◌, inl, inr, ⊎_elim, arith}
use Rattle.std.proofs.lemmas.Bool.{cases_lt, cases_eq}
use Rattle.figure.specs.Ranks.{top}
use Rattle.model.specs.Figures.{Table, Solves, One}

-- the right-hand side at q falls or stays where the values below it fall or stay
abbrev pub Causal : (Table → Table) → Type 0
Causal F = (x y : Table) (q : ℕ) → ((r : ℕ) → x r < F x q → y r ≤ x r) → F y q ≤ F x q

pub record System (n : ℕ) (F : Table → Table) : Type 0 where
  pub causal : Causal F
  pub bound : (x : Table) (q : ℕ) → F x q ≤ top
  pub beyond : (x : Table) (q : ℕ) → n ≤ q → F x q ≡ top

module _ (F : Table → Table) (causal : Causal F) where
  under : (x y : Table) → ((q : ℕ) → F x q ≤ x q) → ((q : ℕ) → y q ≤ F y q) → (k q : ℕ) → x q < k → y q ≤ x q
  under x y up low zero q h = omega arith
  under x y up low (suc k) q h =
      let same : F y q ≤ F x q = causal x y q (λ r l. under x y up low k r (omega (arith, up q))) in
      omega (arith, up q, low q)

  pub compare : (x y : Table) → ((q : ℕ) → F x q ≤ x q) → ((q : ℕ) → y q ≤ F y q) → (q : ℕ) → y q ≤ x q
  compare x y up low q = under x y up low (suc (x q)) q (omega arith)

  below : (x y : Table) → Solves F x → Solves F y → (q : ℕ) → y q ≤ x q
  below x y sx sy = compare x y (λ r. omega (arith, sx r)) (λ r. omega (arith, sy r))

  pub agree : (x y : Table) → Solves F x → Solves F y → (q : ℕ) → x q ≡ y q
  agree x y sx sy q = omega (arith, below x y sx sy q, below y x sy sx q)

  near : (x y : Table) (k : ℕ) → ((r : ℕ) → x r < k → y r ≡ x r) → ((r : ℕ) → y r < k → x r ≡ y r) → (r : ℕ) → F x r ≤ k → F y r ≡ F x r
  near x y k to from r h =
      let down : F y r ≤ F x r = causal x y r (λ s l. omega (arith, to s)) in
      let back : F x r ≤ F y r = causal y x r (λ s l. omega (arith, from s)) in
      omega arith

  pub alike : (x y : Table) (k : ℕ) → ((r : ℕ) → x r < k → y r ≡ x r) → ((r : ℕ) → y r < k → x r ≡ y r) → (r : ℕ) → (F y r ≡ F x r) ⊎ ((k < F x r) × (k < F y r))
  alike x y k to from r =
      ⊎_elim
      (λ l. ⊎_elim (λ m. inr (l, m)) (λ m. inl (sym (near y x k from to r m))) (cases_lt k (F y r)))
      (λ l. inl (near x y k to from r l))
      (cases_lt k (F x r))

-- the sum of the first n values
unfoldable pub total : ℕ → Table → ℕ
total zero x = 0
total (suc n) x = x n + total n x

pub falls : (x y : Table) → ((q : ℕ) → y q ≤ x q) → (n : ℕ) → (total n y ≤ total n x) × ((total n y < total n x) ⊎ ((q : ℕ) → q < n → y q ≡ x q))
unfolding total
falls x y h zero = (omega arith, inr (λ q l. omega arith))
falls x y h (suc n) =
    let ih = falls x y h n in (
      omega (arith, h n),
      ⊎_elim (λ l. inl (omega (arith, h n))) (λ same. ⊎_elim (λ l. inl (omega arith)) (λ g. inr (λ q l. ⊎_elim (λ e. omega (arith, h n, ap x e, ap y e)) (λ ne. same q (omega arith)) (cases_eq q n))) (cases_lt (y n) (x n))) ih.1,
    )

-- one value falls, and the others stay
pub falls_at : (x y : Table) (q : ℕ) → ((r : ℕ) → r ≢ q → y r ≡ x r) → y q < x q → (n : ℕ) → (total n y ≤ total n x) × (q < n → total n y < total n x)
unfolding total
falls_at x y q rest l zero = (omega arith, λ h. omega arith)
falls_at x y q rest l (suc n) =
    let ih = falls_at x y q rest l n in
    ⊎_elim (λ e. let a = ap x e in let b = ap y e in omega (arith, a, b, ih.0)) (λ ne. let same = rest n ne in (omega (arith, same, ih.0), λ h. omega (arith, same, ih.1 (omega arith)))) (cases_eq n q)

pub total_at : (n : ℕ) (x : Table) (r : ℕ) → r < n → x r ≤ total n x
unfolding total
total_at zero x r h = absurd (omega arith)
total_at (suc n) x r h = ⊎_elim (λ e. let a = ap x e in omega arith) (λ o. let b = total_at n x r (omega arith) in omega arith) (cases_eq r n)

module _ (n : ℕ) (F : Table → Table) (s : System n F) where
  descend : (k : ℕ) (x : Table) → total n x < k → ((q : ℕ) → F x q ≤ x q) → ((q : ℕ) → n ≤ q → x q ≡ top) → (z : Table) × Solves F z
  descend zero x h down out = absurd (omega arith)
  descend (suc k) x h down out =
      let next : total n (F x) < total n x → (z : Table) × Solves F z =
      λ l. descend k (F x) (omega arith) (λ q. s.causal x (F x) q (λ r _. down r)) (s.beyond x) in
      let stop : ((q : ℕ) → q < n → F x q ≡ x q) → (z : Table) × Solves F z =
      λ same. (x, λ q. ⊎_elim (λ l. sym (same q l)) (λ l. out q l ∙ sym (s.beyond x q l)) (cases_lt q n)) in
      ⊎_elim next stop (falls x (F x) down n).1

  pub one : One F
  one =
      let z = descend (suc (total n (λ q. top))) (λ q. top) (omega arith) (s.bound (λ q. top)) (λ q l. refl) in
      (z.0, z.1, λ y sy. agree F s.causal y z.0 sy z.1)
