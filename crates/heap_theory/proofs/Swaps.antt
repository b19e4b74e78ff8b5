-- Two slots exchanged. Assumes nothing.
use Rattle.std.proofs.Common.{◌≡◌, ℕ, ◌<◌, ◌≤◌, Bool, true, false, ltb, List, length, get_or, set, is_some, Some, None, Option, sym, refl, ap, ◌∙◌, subst, ⊎_elim, arith, length-set, get_or-set_other, get_or-set_same}
use Rattle.std.proofs.lemmas.Bool.{cases_eq, lt-ltb}
use Rattle.queue.specs.Keys.{Orders}
use Rattle.heap_theory.specs.Heaps.{Swapped, Paired, Held, slot_key, option_leq}
use Rattle.queue.proofs.Tables.{differ, not_leq, leq_refl}

pub swapped_map : {X Y : Type 0} (h : X → Y) {f g : ℕ → X} {p q : ℕ} → Swapped f g p q → Swapped (λ i. h (f i)) (λ i. h (g i)) p q
swapped_map h s = record { first = λ k e. ap h (s.first k e); second = λ k e. ap h (s.second k e); other = λ k e d. ap h (s.other k e d) }

abbrev swapped : List ℕ → ℕ → ℕ → List ℕ
swapped l a b = set (set l a (get_or l b 0)) b (get_or l a 0)

pub set_swapped : (l : List ℕ) (a b : ℕ) → a < length l → b < length l → Swapped (λ i. get_or l i 0) (λ i. get_or (set (set l a (get_or l b 0)) b (get_or l a 0)) i 0) a b
set_swapped l a b al bl = record { first = first; second = second; other = other } where
  second : (k : ℕ) → k ≡ b → get_or (swapped l a b) k 0 ≡ get_or l a 0
  second k e =
      let h : b < length (set l a (get_or l b 0)) = simp length-set bl in
      ap (λ v. get_or (swapped l a b) v 0) e ∙ get_or-set_same (set l a (get_or l b 0)) b (get_or l a 0) 0 h

  first : (k : ℕ) → k ≡ a → get_or (swapped l a b) k 0 ≡ get_or l b 0
  first k e =
      ⊎_elim
      (λ kb. second k kb ∙ ap (λ v. get_or l v 0) (sym e ∙ kb))
      (λ kb. get_or-set_other (set l a (get_or l b 0)) b k (get_or l a 0) 0 kb ∙ ap (λ v. get_or (set l a (get_or l b 0)) v 0) e ∙ get_or-set_same l a (get_or l b 0) 0 al)
      (cases_eq k b)

  other : (k : ℕ) → (k ≡ a → ⊥) → (k ≡ b → ⊥) → get_or (swapped l a b) k 0 ≡ get_or l k 0
  other k ka kb = get_or-set_other (set l a (get_or l b 0)) b k (get_or l a 0) 0 kb ∙ get_or-set_other l a k (get_or l b 0) 0 ka

back_swap : {S T P Q : ℕ → ℕ} {a b x y : ℕ} (n : ℕ) → Swapped S T a b → Swapped P Q y x → S a ≡ x → S b ≡ y → P x ≡ a → P y ≡ b → ((k : ℕ) → k < n → P (S k) ≡ k) → (k : ℕ) → k < n → Q (T k) ≡ k
back_swap {S} {T} {P} {Q} {a} {b} {x} {y} n s t sx sy px py back k h =
    ⊎_elim
    (λ ka. t.first (T k) (s.first k ka ∙ sy) ∙ px ∙ sym ka)
    (λ ka. ⊎_elim
    (λ kb. t.second (T k) (s.second k kb ∙ sx) ∙ py ∙ sym kb)
    (λ kb.
    let same : T k ≡ S k = s.other k ka kb in
    t.other (T k)
    (λ e. kb (sym (back k h) ∙ ap P (sym same ∙ e) ∙ py))
    (λ e. ka (sym (back k h) ∙ ap P (sym same ∙ e) ∙ px))
    ∙ ap P same ∙ back k h)
    (cases_eq k b))
    (cases_eq k a)

within_swap : {S T : ℕ → ℕ} {a b : ℕ} (n : ℕ) → Swapped S T a b → a < n → b < n → ((k : ℕ) → k < n → S k < n) → (k : ℕ) → k < n → T k < n
within_swap {S} {T} {a} {b} n s an bn all k h =
    ⊎_elim
    (λ ka. subst (λ v. v < n) (sym (s.first k ka)) (all b bn))
    (λ ka. ⊎_elim (λ kb. subst (λ v. v < n) (sym (s.second k kb)) (all a an)) (λ kb. subst (λ v. v < n) (sym (s.other k ka kb)) (all k h)) (cases_eq k b))
    (cases_eq k a)

pub paired_swap : (slots places : List ℕ) (n a b : ℕ) → Paired slots places n → a < n → b < n → Paired (set (set slots a (get_or slots b 0)) b (get_or slots a 0)) (set (set places (get_or slots b 0) a) (get_or slots a 0) b) n
paired_swap slots places n a b p an bn =
    let x = get_or slots a 0 in
    let y = get_or slots b 0 in
    let xn : x < n = p.slot_within a an in
    let yn : y < n = p.slot_within b bn in
    let xl : x < length places = subst (λ v. x < v) (sym p.places_long) xn in
    let yl : y < length places = subst (λ v. y < v) (sym p.places_long) yn in
    let al : a < length slots = subst (λ v. a < v) (sym p.slots_long) an in
    let bl : b < length slots = subst (λ v. b < v) (sym p.slots_long) bn in
    let px : get_or places x 0 ≡ a = p.slot_back a an in
    let py : get_or places y 0 ≡ b = p.slot_back b bn in
    let s = set_swapped slots a b al bl in
    let t : Swapped (λ i. get_or places i 0) (λ i. get_or (set (set places y a) x b) i 0) y x =
    subst (λ v. Swapped (λ i. get_or places i 0) (λ i. get_or (set (set places y a) x v) i 0) y x) py
    (subst (λ v. Swapped (λ i. get_or places i 0) (λ i. get_or (set (set places y v) x (get_or places y 0)) i 0) y x) px (set_swapped places y x yl xl)) in
    record {
      slots_long = simp length-set p.slots_long;
      places_long = simp length-set p.places_long;
      slot_within = within_swap n s an bn p.slot_within;
      slot_back = back_swap n s t refl refl px py p.slot_back;
      place_within = within_swap n t yn xn p.place_within;
      place_back = back_swap n t s py px refl refl p.place_back;
    }

module _ {K : Type 0} where
  pub held_swap : (keys : List (Option K)) (slots more : List ℕ) (size a b : ℕ) → Swapped (slot_key keys slots) (slot_key keys more) a b → a < size → b < size → size ≤ length keys → Held keys slots size → Held keys more size
  held_swap keys slots more size a b s asz bs fits held k h =
      let an : a < length keys = omega arith in
      let bn : b < length keys = omega arith in
      ⊎_elim
      (λ ka. ap is_some (s.first k ka) ∙ held b bn ∙ both k b size (omega arith) bs)
      (λ ka. ⊎_elim
      (λ kb. ap is_some (s.second k kb) ∙ held a an ∙ both k a size (omega arith) asz)
      (λ kb. ap is_some (s.other k ka kb) ∙ held k h)
      (cases_eq k b))
      (cases_eq k a) where
        both : (u v w : ℕ) → u < w → v < w → ltb v w ≡ ltb u w
        both u v w p q = lt-ltb v w q ∙ sym (lt-ltb u w p)

  module _ {leq : K → K → Bool} (o : Orders leq) where
    pub option_trans : (x y z : Option K) → option_leq leq x y ≡ true → option_leq leq y z ≡ true → option_leq leq x z ≡ true
    option_trans (Some x) (Some y) (Some z) p q = o.trans x y z p q
    option_trans (Some x) (Some y) None p q = refl
    option_trans (Some x) None (Some z) p q = absurd (differ (sym q))
    option_trans (Some x) None None p q = refl
    option_trans None (Some y) z p q = absurd (differ (sym p))
    option_trans None None (Some z) p q = absurd (differ (sym q))
    option_trans None None None p q = refl

    pub option_not : (x y : Option K) → option_leq leq x y ≡ false → option_leq leq y x ≡ true
    option_not (Some x) (Some y) e = not_leq o x y e
    option_not (Some x) None e = absurd (differ e)
    option_not None (Some y) e = refl
    option_not None None e = refl

    pub option_refl : (x : Option K) → option_leq leq x x ≡ true
    option_refl (Some x) = leq_refl o x
    option_refl None = refl
