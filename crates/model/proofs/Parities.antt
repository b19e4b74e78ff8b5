-- Facts are even, and actions odd. Assumes nothing.
use Rattle.std.proofs.Common.{◌≡◌, ℕ, zero, suc, ◌+◌, ◌-◌, ◌*◌, ◌/◌, ◌%◌, ◌<◌, ◌≤◌, ltb, List, [], ◌∷◌, map, length, refl, ap, subst, inl, inr, ⊎_elim, arith}
use Rattle.std.specs.List.{AllByRecursion}
use Rattle.std.proofs.ByRecursion.{All-get_or}
use Rattle.std.proofs.lemmas.Bool.{cases_lt, cond_both, cond-true, ltb-true, ltb-false, lt-ltb}
use Rattle.figure.specs.Ranks.{top, cut, halved}
use Rattle.model.specs.Strips.{Problem, Action, State, Lawful, items, names, action, no_action}
use Rattle.model.specs.Figures.{Rule, Laws, Even, Odd, Table, least, adding, Node, node, side, equations, Solves, Halves, Parity}
use Rattle.model.specs.Figures.Node.{standing, added_by, needing, absent}

-- the preconditions of an action are facts
pub pre_known : (p : Problem) → Lawful p → (k : ℕ) → k < length p.actions → AllByRecursion (λ f. f < p.facts) (action p k).pre
pre_known p w k l = (All-get_or _ p.actions k no_action l w.actions_fit).pre.known

-- what stands at an item of a problem with n facts
abbrev Shaped : ℕ → ℕ → Node → Type 0
Shaped n q standing = q < n
Shaped n q (added_by acts) = (q < n) × AllByRecursion (λ a. n ≤ a) acts
Shaped n q (needing pre) = (n ≤ q) × AllByRecursion (λ f. f < n) pre
Shaped n q absent = n ≤ q

adding_far : (n f j : ℕ) (bs : List Action) → n ≤ j → AllByRecursion (λ a. n ≤ a) (adding f j bs)
adding_far n f j [] h = tt
adding_far n f j (b ∷ bs) h =
    let rest = adding_far n f (j + 1) bs (omega arith) in
    cond_both (names b.add f) _ _ (AllByRecursion (λ a. n ≤ a)) (λ _. (h, rest)) (λ _. rest)

node_shaped : (p : Problem) (s : State) (q : ℕ) → Lawful p → Shaped p.facts q (node p s q)
unfolding node
node_shaped p s q w =
    cond_both (ltb q p.facts) _ _ (Shaped p.facts q)
    (λ e. let l = ltb-true q p.facts e in cond_both (s q) _ _ (Shaped p.facts q) (λ _. l) (λ _. (l, adding_far p.facts q p.facts p.actions (omega arith))))
    (λ e. let l = ltb-false q p.facts e in
    cond_both (ltb q (items p)) _ _ (Shaped p.facts q)
    (λ i. let m = ltb-true q (items p) i in (l, pre_known p w (q - p.facts) (omega arith)))
    (λ _. l))

module _ (rule : Rule) (laws : Laws rule) (n : ℕ) (x : Table) where
  least_odd : (k : ℕ) → ((a : ℕ) → n ≤ a → x a < k → Odd (x a)) → (bs : List ℕ) → AllByRecursion (λ a. n ≤ a) bs → least x bs < k → Odd (least x bs)
  least_odd k h [] f l = inr refl
  least_odd k h (a ∷ bs) f l =
      ⊎_elim
      (λ m. let e : x a ≡ least x (a ∷ bs) = omega arith in subst Odd e (h a f.0 (omega arith)))
      (λ m. let e : least x bs ≡ least x (a ∷ bs) = omega arith in subst Odd e (least_odd k h bs f.1 (omega arith)))
      (cases_lt (x a) (least x bs))

  all_even : (v : ℕ) → v < top → ((p : ℕ) → p < n → x p ≤ v → Even (x p)) → (ps : List ℕ) → AllByRecursion (λ p. p < n) ps → AllByRecursion (λ w. cut w ≤ v) (map x ps) → AllByRecursion Even (map x ps)
  all_even v l h [] f c = tt
  all_even v l h (p ∷ ps) f c = (h p f.0 (omega (arith, c.0)), all_even v l h ps f.1 c.1)

  Told : ℕ → Type 0
  Told q = (q < n → Even (x q)) × (n ≤ q → Odd (x q))

  told : (q : ℕ) (m : Node) → Shaped n q m → x q ≡ side rule x m → ((r : ℕ) → x r < x q → Told r) → Told q
  unfolding Told
  told q standing f e h = ((λ _. inl (ap (λ v. v % 2) e)), λ l. absurd (omega arith))
  told q (added_by bs) f e h = (
    (λ _. ⊎_elim
        (λ l. let o = least_odd (least x bs + 1) (λ a g m. (h a (omega arith)).1 g) bs f.1 (omega arith) in inl (omega arith))
        (λ l. inr (omega arith))
        (cases_lt (least x bs + 1) top)),
    λ l. absurd (omega (arith, f.0)),
  )
  told q (needing ps) f e h = (
    (λ l. absurd (omega (arith, f.0))),
    λ _. ⊎_elim
        (λ l. let o = laws.even (map x ps) (all_even (rule (map x ps)) (omega arith) (λ p g m. (h p (omega arith)).0 g) ps f.1 (laws.covers (map x ps))) in inl (omega arith))
        (λ l. inr (omega arith))
        (cases_lt (rule (map x ps) + 1) top),
  )
  told q absent f e h = ((λ l. absurd (omega arith)), λ _. inr e)

module _ (rule : Rule) (laws : Laws rule) (p : Problem) (w : Lawful p) (s : State) (x : Table) (e : Solves (equations rule p s) x) where
  below : (k q : ℕ) → x q < k → Told rule laws p.facts x q
  unfolding equations
  below zero q l = absurd (omega arith)
  below (suc k) q l = told rule laws p.facts x q (node p s q) (node_shaped p s q w) (e q) (λ r m. below k r (omega arith))

  facts_even : (f : ℕ) → f < p.facts → Even (x f)
  unfolding Told
  facts_even f l = (below (suc (x f)) f (omega arith)).0 l

  actions_odd : (q : ℕ) → p.facts ≤ q → Odd (x q)
  unfolding Told
  actions_odd q l = (below (suc (x q)) q (omega arith)).1 l

  evens : (l : List ℕ) → AllByRecursion (λ f. f < p.facts) l → AllByRecursion Even (map x l)
  evens [] k = tt
  evens (f ∷ l) k = (facts_even f k.0, evens l k.1)

  exact : (v : ℕ) → Even v → v < top → 2 * halved v ≡ v
  exact v o l =
      let h = cond-true (ltb v top) (v / 2) top (lt-ltb v top l) in
      omega (arith, o, h)

  halves : Halves rule p x
  halves = record {
    facts = facts_even;
    actions = λ k l. actions_odd (p.facts + k) (omega arith);
    goal = exact (rule (map x p.goal)) (laws.even (map x p.goal) (evens p.goal w.goal.known));
  }

pub parity : Parity
parity rule laws p w s x e = halves rule laws p w s x e
