-- What an added, re-keyed or removed key does to heap order. Assumes nothing.
use Rattle.std.proofs.Common.{◌≡◌, ℕ, zero, suc, ◌+◌, ◌-◌, ◌/◌, ◌<◌, ◌≤◌, Bool, true, ltb, List, length, get_or, set, is_some, Some, None, Option, sym, refl, ap, ◌∙◌, subst, ⊎_elim, arith, get_or-set_other, get_or-set_same}
use Rattle.std.proofs.lemmas.Bool.{cases_eq, cases_lt, lt-ltb, le-ltb}
use Rattle.queue.specs.Queues.{at}
use Rattle.heap_theory.specs.Heaps.{Child, Swapped, Paired, Heaped, UpTo, Near, slot_key}

-- h is g but for w at q
pub record Reset {X : Type 0} (g h : ℕ → X) (n q : ℕ) (w : X) : Type 0 where
  pub here : (k : ℕ) → k ≡ q → h k ≡ w
  pub other : (k : ℕ) → k < n → (k ≡ q → ⊥) → h k ≡ g k

module _ {X : Type 0} (le : X → X → Bool) where
  both : {a b x y : X} → a ≡ x → b ≡ y → le x y ≡ true → le a b ≡ true
  both {a} {b} {x} {y} p q h = subst (λ v. le v b ≡ true) (sym p) (subst (λ v. le x v ≡ true) (sym q) h)

  pub added_up : (f g h : ℕ → X) (n size p : ℕ) (w : X) → Heaped le f size → Swapped f g p size → Reset g h n size w → size ≤ p → size < n → UpTo le h (size + 1) size
  added_up f g h n size p w old s t sp sn = record { rest = rest; over = λ i j a b jn. absurd (omega arith) } where
    same : (k : ℕ) → k < size → h k ≡ f k
    same k ks = t.other k (omega arith) (λ e. omega arith) ∙ s.other k (λ e. omega arith) (λ e. omega arith)

    rest : (i j : ℕ) → Child i j → j < size + 1 → (j ≡ size → ⊥) → le (h i) (h j) ≡ true
    rest i j c jn js =
        let jl : j < size = omega arith in
        let il : i < size = omega arith in
        both (same i il) (same j jl) (old i j c jl)

  module _ (trans : (x y z : X) → le x y ≡ true → le y z ≡ true → le x z ≡ true) where
    pub reset_near : (f h : ℕ → X) (n size p : ℕ) (w : X) → Heaped le f size → Reset f h n p w → p < size → size ≤ n → Near le h size p
    reset_near f h n size p w old t ps sn = record { rest = rest; over = over } where
      rest : (i j : ℕ) → Child i j → j < size → (i ≡ p → ⊥) → (j ≡ p → ⊥) → le (h i) (h j) ≡ true
      rest i j c jn ip jp =
          let il : i < n = omega arith in
          let jl : j < n = omega arith in
          both (t.other i il ip) (t.other j jl jp) (old i j c jn)

      over : (i j : ℕ) → Child i p → Child p j → j < size → le (h i) (h j) ≡ true
      over i j a b jn =
          let il : i < n = omega arith in
          let jl : j < n = omega arith in
          let ip : i ≡ p → ⊥ = λ e. omega arith in
          let jp : j ≡ p → ⊥ = λ e. omega arith in
          both (t.other i il ip) (t.other j jl jp) (trans (f i) (f p) (f j) (old i p a ps) (old p j b jn))

    pub removed_near : (f g h : ℕ → X) (n last p : ℕ) (w : X) → Heaped le f (last + 1) → Swapped f g p last → Reset g h n last w → p < last → last < n → Near le h last p
    removed_near f g h n last p w old s t pl ln = record { rest = rest; over = over } where
      same : (k : ℕ) → k < last → (k ≡ p → ⊥) → h k ≡ f k
      same k kl kp = t.other k (omega arith) (λ e. omega arith) ∙ s.other k kp (λ e. omega arith)

      rest : (i j : ℕ) → Child i j → j < last → (i ≡ p → ⊥) → (j ≡ p → ⊥) → le (h i) (h j) ≡ true
      rest i j c jn ip jp =
          let il : i < last = omega arith in
          both (same i il ip) (same j jn jp) (old i j c (omega arith))

      over : (i j : ℕ) → Child i p → Child p j → j < last → le (h i) (h j) ≡ true
      over i j a b jn =
          let il : i < last = omega arith in
          let ip : i ≡ p → ⊥ = λ e. omega arith in
          let jp : j ≡ p → ⊥ = λ e. omega arith in
          both (same i il ip) (same j jn jp) (trans (f i) (f p) (f j) (old i p a (omega arith)) (old p j b (omega arith)))

    -- the root is at most every other
    pub root_least : (same : (x : X) → le x x ≡ true) (f : ℕ → X) (size : ℕ) → Heaped le f size → (fuel j : ℕ) → j ≤ fuel → j < size → le (f 0) (f j) ≡ true
    root_least same f size old zero j jf js = let e : j ≡ 0 = omega arith in both refl (ap f e) (same (f 0))
    root_least same f size old (suc fuel) j jf js =
        ⊎_elim
        (λ e. both refl (ap f e) (same (f 0)))
        (λ ne.
        let q = (j - 1) / 2 in
        let c : Child q j = (omega arith, omega arith) in
        trans (f 0) (f q) (f j) (root_least same f size old fuel q (omega arith) (omega arith)) (old q j c js))
        (cases_eq j 0)

  pub removed_last : (f g h : ℕ → X) (n last p : ℕ) (w : X) → Heaped le f (last + 1) → Swapped f g p last → Reset g h n last w → last ≤ p → last < n → Heaped le h last
  removed_last f g h n last p w old s t pl ln i j c jn =
      let il : i < last = omega arith in
      both (same i il) (same j jn) (old i j c (omega arith)) where
        same : (k : ℕ) → k < last → h k ≡ f k
        same k kl = t.other k (omega arith) (λ e. omega arith) ∙ s.other k (λ e. omega arith) (λ e. omega arith)

lt_same : (u v a b : ℕ) → u < a → v < b → ltb u a ≡ ltb v b
lt_same u v a b p q = lt-ltb u a p ∙ sym (lt-ltb v b q)

le_same : (u v a b : ℕ) → a ≤ u → b ≤ v → ltb u a ≡ ltb v b
le_same u v a b p q = le-ltb u a p ∙ sym (le-ltb v b q)

-- one more below, but for the one above
more_same : (k size : ℕ) → (k ≡ size → ⊥) → ltb k size ≡ ltb k (size + 1)
more_same k size ne = ⊎_elim (λ h. lt_same k k size (size + 1) h (omega arith)) (λ h. le_same k k size (size + 1) h (omega arith)) (cases_lt k size)

module _ {K : Type 0} where
  pub key_reset : (keys : List (Option K)) (slots places : List ℕ) (item : ℕ) (w : Option K) → Paired slots places (length keys) → item < length keys → Reset (slot_key keys slots) (slot_key (set keys item w) slots) (length keys) (get_or places item 0) w
  key_reset keys slots places item w p within = record { here = here; other = other } where
    here : (k : ℕ) → k ≡ get_or places item 0 → slot_key (set keys item w) slots k ≡ w
    here k e = ap (at (set keys item w)) (ap (λ v. get_or slots v 0) e ∙ p.place_back item within) ∙ get_or-set_same keys item w None within

    other : (k : ℕ) → k < length keys → (k ≡ get_or places item 0 → ⊥) → slot_key (set keys item w) slots k ≡ slot_key keys slots k
    other k kn ne = get_or-set_other keys item (get_or slots k 0) w None (λ e. ne (sym (p.slot_back k kn) ∙ ap (λ v. get_or places v 0) e))

  pub added_held : (f g h : ℕ → Option K) (n size p : ℕ) (x : K) → ((i : ℕ) → i < n → is_some (f i) ≡ ltb i size) → Swapped f g p size → Reset g h n size (Some x) → size ≤ p → size < n → (i : ℕ) → i < n → is_some (h i) ≡ ltb i (size + 1)
  added_held f g h n size p x old s t sp sn k kn =
      ⊎_elim
      (λ ks. ap is_some (t.here k ks) ∙ sym (lt-ltb k (size + 1) (omega arith)))
      (λ ks. ap is_some (t.other k kn ks) ∙ ⊎_elim
      (λ kp. ap is_some (s.first k kp) ∙ old size sn ∙ le_same size k size (size + 1) (omega arith) (omega arith))
      (λ kp. ap is_some (s.other k kp ks) ∙ old k kn ∙ more_same k size ks)
      (cases_eq k p))
      (cases_eq k size)

  pub reset_held : (f h : ℕ → Option K) (n size p : ℕ) (x : K) → ((i : ℕ) → i < n → is_some (f i) ≡ ltb i size) → Reset f h n p (Some x) → p < size → (i : ℕ) → i < n → is_some (h i) ≡ ltb i size
  reset_held f h n size p x old t ps k kn =
      ⊎_elim
      (λ kp. ap is_some (t.here k kp) ∙ sym (lt-ltb k size (omega arith)))
      (λ kp. ap is_some (t.other k kn kp) ∙ old k kn)
      (cases_eq k p)

  pub removed_held : (f g h : ℕ → Option K) (n last p : ℕ) → ((i : ℕ) → i < n → is_some (f i) ≡ ltb i (last + 1)) → Swapped f g p last → Reset g h n last None → p < last + 1 → last < n → (i : ℕ) → i < n → is_some (h i) ≡ ltb i last
  removed_held f g h n last p old s t pl ln k kn =
      ⊎_elim
      (λ ks. ap is_some (t.here k ks) ∙ sym (le-ltb k last (omega arith)))
      (λ ks. ap is_some (t.other k kn ks) ∙ ⊎_elim
      (λ kp. ap is_some (s.first k kp) ∙ old last ln ∙ lt_same last k (last + 1) last (omega arith) (omega arith))
      (λ kp. ap is_some (s.other k kp ks) ∙ old k kn ∙ sym (more_same k last ks))
      (cases_eq k p))
      (cases_eq k last)
