-- The equations of the facts' costs have exactly one solution. Assumes nothing.
use Rattle.std.proofs.Common.{◌≡◌, ℕ, zero, suc, ◌<◌, ◌≤◌, cond, ◌⊎◌, List, [], ◌∷◌, sym, refl, ap, subst, inl, inr, ⊎_elim, arith}
use Rattle.std.specs.List.{AllByRecursion}
use Rattle.std.proofs.ByRecursion.{All-weaker}
use Rattle.std.proofs.lemmas.Bool.{cases_lt, cases_eq, cases_Bool, cond-true, cond-false}
use Rattle.model.specs.Strips.{Problem, Action, State, Lawful, names, Fits}
use Rattle.model.specs.Heuristics.{Value, plus, smaller, SetCost, cheapest, Costs, OneCost}
use Rattle.model.specs.Heuristics.Value.{finite, infinite}
use Rattle.model.proofs.Causal.{total}
use Rattle.model.proofs.Values.{Most, plus_parts, plus_most, smaller_cases, smaller_left, smaller_right, same_value, Follows, Reads}

-- every precondition is a fact
abbrev Known : ℕ → List Action → Type 0
Known n acts = AllByRecursion (λ a. AllByRecursion (λ f. f < n) a.pre) acts

pub known : (p : Problem) → Lawful p → Known p.facts p.actions
known p w = All-weaker (Fits p.facts) (λ a. AllByRecursion (λ f. f < p.facts) a.pre) (λ a fits. fits.pre.known) p.actions w.actions_fit

module _ (cost : SetCost) (reads : Reads cost) (n : ℕ) where
  -- an action's value below m follows from those of the facts below m
  one_follows : (g h : ℕ → Value) (m : ℕ) → ((f : ℕ) → f < n → (k : ℕ) → k < m → Most (g f) k → Most (h f) k) → (l : List ℕ) → AllByRecursion (λ f. f < n) l → Most (plus (finite 1) (cost g l)) m → Most (plus (finite 1) (cost h l)) m
  one_follows g h m ih l w t =
      let (a, b, p, q, le) = plus_parts (finite 1) (cost g l) m t in
      plus_most (finite 1) (cost h l) a b m p (reads g h l b (All-weaker (λ f. f < n) (Follows g h b) (λ f i k o. ih f i k (omega arith)) l w) q) le

  cheapest_follows : (g h : ℕ → Value) (m : ℕ) → ((f : ℕ) → f < n → (k : ℕ) → k < m → Most (g f) k → Most (h f) k) → (f : ℕ) (acts : List Action) → Known n acts → Most (cheapest cost g f acts) m → Most (cheapest cost h f acts) m
  cheapest_follows g h m ih f [] w t = t
  cheapest_follows g h m ih f (a ∷ acts) w t =
      let P : Value → Type 0 = λ v. Most v m in
      ⊎_elim
      (λ e.
      let t' : P (smaller (plus (finite 1) (cost g a.pre)) (cheapest cost g f acts)) = subst P (cond-true _ _ _ e) t in
      subst P (sym (cond-true _ _ _ e))
      (⊎_elim
      (λ one. smaller_left (plus (finite 1) (cost h a.pre)) (cheapest cost h f acts) m (one_follows g h m ih a.pre w.0 one))
      (λ rest. smaller_right (plus (finite 1) (cost h a.pre)) (cheapest cost h f acts) m (cheapest_follows g h m ih f acts w.1 rest))
      (smaller_cases (plus (finite 1) (cost g a.pre)) (cheapest cost g f acts) m t')))
      (λ e. subst P (sym (cond-false _ _ _ e)) (cheapest_follows g h m ih f acts w.1 (subst P (cond-false _ _ _ e) t)))
      (cases_Bool (names a.add f))

module _ (cost : SetCost) (reads : Reads cost) (p : Problem) (w : Lawful p) (s : State) where
  -- what the equations make of the costs
  round : (ℕ → Value) → ℕ → Value
  round g f = cond (s f) (finite 0) (cheapest cost g f p.actions)

  round_follows : (g h : ℕ → Value) (m : ℕ) → ((f : ℕ) → f < p.facts → (k : ℕ) → k < m → Most (g f) k → Most (h f) k) → (f : ℕ) → Most (round g f) m → Most (round h f) m
  unfolding round
  round_follows g h m ih f t =
      let P : Value → Type 0 = λ v. Most v m in
      ⊎_elim
      (λ e. subst P (sym (cond-true _ _ _ e)) (omega arith))
      (λ e. subst P (sym (cond-false _ _ _ e)) (cheapest_follows cost reads p.facts g h m ih f p.actions (known p w) (subst P (cond-false _ _ _ e) t)))
      (cases_Bool (s f))

  -- ---- uniqueness
  below : (g h : ℕ → Value) → Costs cost p s g → Costs cost p s h → (u m : ℕ) → m < u → (f : ℕ) → f < p.facts → Most (g f) m → Most (h f) m
  unfolding round
  below g h eg eh zero m o f l t = absurd (omega arith)
  below g h eg eh (suc u) m o f l t =
      let P : Value → Type 0 = λ v. Most v m in
      subst P (sym (eh f l)) (round_follows g h m (λ i j k b. below g h eg eh u k (omega arith) i j) f (subst P (eg f l) t))

  agree : (g h : ℕ → Value) → Costs cost p s g → Costs cost p s h → (f : ℕ) → f < p.facts → h f ≡ g f
  agree g h eg eh f l =
      same_value (h f) (g f) (λ m. below h g eh eg (suc m) m (omega arith) f l) (λ m. below g h eg eh (suc m) m (omega arith) f l)

  -- ---- existence, by rounds from infinite everywhere
  Falls : (ℕ → Value) → (ℕ → Value) → Type 0
  Falls g h = (f : ℕ) → f < p.facts → (k : ℕ) → Most (g f) k → Most (h f) k

-- whether a value is infinite, as a number, and a value's number
abbrev far : Value → ℕ
far (finite n) = 0
far infinite = 1

abbrev size : Value → ℕ
size (finite n) = n
size infinite = 0

-- a value that falls: from infinite, or to a smaller number, or not at all
abbrev Fall : ℕ → ℕ → ℕ → ℕ → Type 0 → Type 0
Fall a b c d same = (a < b) ⊎ ((a ≡ b) × ((c < d) ⊎ ((c ≡ d) × same)))

fall_one : (u v : Value) → ((k : ℕ) → Most u k → Most v k) → Fall (far v) (far u) (size v) (size u) (v ≡ u)
fall_one infinite infinite h = inr (refl, inr (refl, refl))
fall_one infinite (finite b) h = inl (omega arith)
fall_one (finite a) infinite h = absurd (h a (omega arith))
fall_one (finite a) (finite b) h =
    let l : b ≤ a = h a (omega arith) in
    ⊎_elim (λ m. inr (refl, inl m)) (λ m. let e : b ≡ a = omega arith in inr (refl, inr (e, ap finite e))) (cases_lt b a)

-- the same of the first n values
fall_all : (n : ℕ) (g h : ℕ → Value) → ((f : ℕ) → f < n → (k : ℕ) → Most (g f) k → Most (h f) k) →
    Fall (total n (λ f. far (h f))) (total n (λ f. far (g f))) (total n (λ f. size (h f))) (total n (λ f. size (g f))) ((f : ℕ) → f < n → h f ≡ g f)
unfolding total
fall_all zero g h e = inr (refl, inr (refl, λ f l. absurd (omega arith)))
fall_all (suc n) g h e =
    let ih = fall_all n g h (λ f l. e f (omega arith)) in
    let top' = fall_one (g n) (h n) (e n (omega arith)) in
    ⊎_elim
    (λ less. ⊎_elim (λ l. inl (omega arith)) (λ same. inl (omega (arith, same.0))) top')
    (λ same. ⊎_elim
    (λ l. inl (omega (arith, same.0)))
    (λ here. inr (
      omega (arith, same.0, here.0),
      ⊎_elim
          (λ l. ⊎_elim (λ m. inl (omega arith)) (λ m. inl (omega (arith, m.0))) here.1)
          (λ all. ⊎_elim
          (λ m. inl (omega (arith, all.0)))
          (λ m. inr (omega (arith, all.0, m.0), λ f l. ⊎_elim (λ i. rw i m.1) (λ o. all.1 f (omega arith)) (cases_eq f n)))
          here.1)
          same.1,
    ))
    top')
    ih

module _ (cost : SetCost) (reads : Reads cost) (p : Problem) (w : Lawful p) (s : State) where
  abbrev Found : Type 0
  Found = (g : ℕ → Value) × Costs cost p s g

  abbrev Go : (ℕ → Value) → Type 0
  Go g = Falls cost reads p w s g (round cost reads p w s g)

  again : (g : ℕ → Value) → Go g → Go (round cost reads p w s g)
  unfolding Falls
  again g e f l k t =
      round_follows cost reads p w s g (round cost reads p w s g) k (λ i j b o. e i j b) f t

  abbrev fars : (ℕ → Value) → ℕ
  fars g = total p.facts (λ f. far (g f))

  abbrev sizes : (ℕ → Value) → ℕ
  sizes g = total p.facts (λ f. size (g f))

  -- rounds that leave a infinite values or fewer, b bounding the sum of the others
  inner : (a : ℕ) → ((g : ℕ → Value) → fars g < a → Go g → Found) → (b : ℕ) (g : ℕ → Value) → fars g < suc a → sizes g < b → Go g → Found
  unfolding Falls round
  inner a outer zero g fa si e = absurd (omega arith)
  inner a outer (suc b) g fa si e =
      ⊎_elim
      (λ l. outer (round cost reads p w s g) (omega arith) (again g e))
      (λ (same, more). ⊎_elim
      (λ l. inner a outer b (round cost reads p w s g) (omega arith) (omega arith) (again g e))
      (λ (_, all). (g, λ f l. sym (all f l)))
      more)
      (fall_all p.facts g (round cost reads p w s g) e)

  outer : (a : ℕ) (g : ℕ → Value) → fars g < a → Go g → Found
  outer zero g fa e = absurd (omega arith)
  outer (suc a) g fa e = inner a (outer a) (suc (sizes g)) g fa (omega arith) e

  found : Found
  unfolding Falls
  found = outer (suc (fars (λ f. infinite))) (λ f. infinite) (omega arith) (λ f l k t. absurd t)

pub one_cost : (cost : SetCost) → Reads cost → OneCost cost
one_cost cost reads p w s =
    let (g, e) = found cost reads p w s in
    (g, e, λ h eh f l. agree cost reads p w s g h e eh f l)
