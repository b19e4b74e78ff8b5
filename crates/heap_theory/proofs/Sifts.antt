-- The steps of a sift. Assumes nothing.
use Rattle.std.proofs.Common.{◌≡◌, ℕ, ◌+◌, ◌*◌, ◌<◌, Bool, true, ◌⊎◌, sym, refl, ap, subst, inl, inr, ⊎_elim, arith}
use Rattle.std.proofs.lemmas.Bool.{cases_eq}
use Rattle.heap_theory.specs.Heaps.{Child, Swapped, UpTo, DownFrom, Near, Heaped}

module _ {X : Type 0} {le : X → X → Bool} (trans : (x y z : X) → le x y ≡ true → le y z ≡ true → le x z ≡ true) where
  via : {a b x y : X} → a ≡ x → b ≡ y → le x y ≡ true → le a b ≡ true
  via {a} {b} {x} {y} p q h = subst (λ v. le v b ≡ true) (sym p) (subst (λ v. le x v ≡ true) (sym q) h)

  -- of two places that are all the children, the lesser
  pub pick : (same : (x : X) → le x x ≡ true) (f : ℕ → X) (r s : ℕ) {j : ℕ} → le (f r) (f s) ≡ true → (j ≡ r) ⊎ (j ≡ s) → le (f r) (f j) ≡ true
  pick same f r s h (inl e) = via refl (ap f e) (same (f r))
  pick same f r s h (inr e) = via refl (ap f e) h

  pub up_step : (f g : ℕ → X) (size p q : ℕ) → Child q p → p < size → Swapped f g p q → le (f p) (f q) ≡ true → UpTo le f size p → UpTo le g size q
  up_step f g size p q c within s low u = record { rest = rest; over = over } where
    rest : (i j : ℕ) → Child i j → j < size → (j ≡ q → ⊥) → le (g i) (g j) ≡ true
    rest i j ch jn jq =
        ⊎_elim
        (λ jp. let iq : i ≡ q = omega arith in via (s.second i iq) (s.first j jp) low)
        (λ jp. ⊎_elim
        (λ ip. let down : Child p j = (omega arith, omega arith) in via (s.first i ip) (s.other j jp jq) (u.over q j c down jn))
        (λ ip. ⊎_elim
        (λ iq. let side : Child q j = (omega arith, omega arith) in via (s.second i iq) (s.other j jp jq) (trans (f p) (f q) (f j) low (u.rest q j side jn jp)))
        (λ iq. via (s.other i ip iq) (s.other j jp jq) (u.rest i j ch jn jp))
        (cases_eq i q))
        (cases_eq i p))
        (cases_eq j p)

    over : (i j : ℕ) → Child i q → Child q j → j < size → le (g i) (g j) ≡ true
    over i j above below jn =
        let ip : i ≡ p → ⊥ = λ e. omega arith in
        let iq : i ≡ q → ⊥ = λ e. omega arith in
        let jq : j ≡ q → ⊥ = λ e. omega arith in
        let qp : q ≡ p → ⊥ = λ e. omega arith in
        let qn : q < size = omega arith in
        let top : le (f i) (f q) ≡ true = u.rest i q above qn qp in
        ⊎_elim
        (λ jp. via (s.other i ip iq) (s.first j jp) top)
        (λ jp. via (s.other i ip iq) (s.other j jp jq) (trans (f i) (f q) (f j) top (u.rest q j below jn jp)))
        (cases_eq j p)

  pub down_step : (f g : ℕ → X) (size p q : ℕ) → Child p q → q < size → Swapped f g p q → le (f q) (f p) ≡ true → ((j : ℕ) → Child p j → j < size → le (f q) (f j) ≡ true) → DownFrom le f size p → DownFrom le g size q
  down_step f g size p q c within s low least u = record { rest = rest; over = over } where
    rest : (i j : ℕ) → Child i j → j < size → (i ≡ q → ⊥) → le (g i) (g j) ≡ true
    rest i j ch jn iq =
        ⊎_elim
        (λ jq. let ip : i ≡ p = omega arith in via (s.first i ip) (s.second j jq) low)
        (λ jq. ⊎_elim
        (λ ip. let jp : j ≡ p → ⊥ = λ e. omega arith in let down : Child p j = (omega arith, omega arith) in via (s.first i ip) (s.other j jp jq) (least j down jn))
        (λ ip. ⊎_elim
        (λ jp. let up : Child i p = (omega arith, omega arith) in via (s.other i ip iq) (s.first j jp) (u.over i q up c within))
        (λ jp. via (s.other i ip iq) (s.other j jp jq) (u.rest i j ch jn ip))
        (cases_eq j p))
        (cases_eq i p))
        (cases_eq j q)

    over : (i j : ℕ) → Child i q → Child q j → j < size → le (g i) (g j) ≡ true
    over i j above below jn =
        let ip : i ≡ p = omega arith in
        let jp : j ≡ p → ⊥ = λ e. omega arith in
        let jq : j ≡ q → ⊥ = λ e. omega arith in
        let qp : q ≡ p → ⊥ = λ e. omega arith in
        via (s.first i ip) (s.other j jp jq) (u.rest q j below jn qp)

  pub down_done : (f : ℕ → X) (size p q : ℕ) → le (f p) (f q) ≡ true → ((j : ℕ) → Child p j → j < size → le (f q) (f j) ≡ true) → DownFrom le f size p → Heaped le f size
  down_done f size p q low least u i j ch jn =
      ⊎_elim
      (λ ip. let down : Child p j = (omega arith, omega arith) in via (ap f ip) refl (trans (f p) (f q) (f j) low (least j down jn)))
      (λ ip. u.rest i j ch jn ip)
      (cases_eq i p)

  pub near_up : (f : ℕ → X) (size p q : ℕ) → Child q p → le (f p) (f q) ≡ true → Near le f size p → UpTo le f size p
  near_up f size p q c low u = record { rest = rest; over = u.over } where
    rest : (i j : ℕ) → Child i j → j < size → (j ≡ p → ⊥) → le (f i) (f j) ≡ true
    rest i j ch jn jp =
        ⊎_elim
        (λ ip. let down : Child p j = (omega arith, omega arith) in via (ap f ip) refl (trans (f p) (f q) (f j) low (u.over q j c down jn)))
        (λ ip. u.rest i j ch jn ip jp)
        (cases_eq i p)

pub up_done : {X : Type 0} {le : X → X → Bool} (f : ℕ → X) (size p q : ℕ) → Child q p → le (f q) (f p) ≡ true → UpTo le f size p → Heaped le f size
up_done {le = le} f size p q c low u i j ch jn =
    ⊎_elim
    (λ e. let iq : i ≡ q = omega arith in subst (λ v. le (f i) (f v) ≡ true) (sym e) (subst (λ v. le (f v) (f p) ≡ true) (sym iq) low))
    (λ e. u.rest i j ch jn e)
    (cases_eq j p)

pub near_down : {X : Type 0} {le : X → X → Bool} (f : ℕ → X) (size p : ℕ) → ((i : ℕ) → Child i p → le (f i) (f p) ≡ true) → Near le f size p → DownFrom le f size p
near_down {le = le} f size p above u = record {
  rest = λ i j ch jn ip. ⊎_elim (λ e. subst (λ v. le (f i) (f v) ≡ true) (sym e) (above i (subst (Child i) e ch))) (λ e. u.rest i j ch jn ip e) (cases_eq j p);
  over = u.over;
}

pub child_is : (p j : ℕ) → Child p j → (j ≡ 2 * p + 1) ⊎ (j ≡ 2 * p + 1 + 1)
child_is p j c = ⊎_elim inl (λ ne. inr (omega arith)) (cases_eq j (2 * p + 1))
