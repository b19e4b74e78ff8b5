-- The equations of a problem are a causal system, and both rules are lawful. Assumes nothing.
use Rattle.std.proofs.Common.{◌≡◌, ℕ, suc, ◌+◌, ◌-◌, ◌<◌, ◌≤◌, min, max, true, false, cond, eqb, ltb, ◌≢◌, ◌⊎◌, List, [], ◌∷◌, map, get_or, sym, refl, ap, ◌∙◌, subst, ap₂, inl, inr, ⊎_elim, arith}
use Rattle.std.specs.List.{AllZip, AllByRecursion}
use Rattle.std.proofs.ByRecursion.{All-weaker}
use Rattle.std.proofs.lemmas.Bool.{cases_lt, le-ltb, lt-ltb, cond-true, cond-false, cond_both, or_parts, and_cases, eqb-false, leb-false, true≢false}
use Rattle.figure.specs.Ranks.{top, cut}
use Rattle.model.specs.Strips.{Problem, Action, State, items, names, action, no_action}
use Rattle.model.specs.Figures.{Rule, Laws, Even, additive_rule, max_rule, Table, least, adding, adders, Node, node, side, equations, Compares, OneTable, BothLawful}
use Rattle.model.specs.Figures.Node.{standing, added_by, needing, absent}
use Rattle.model.specs.Settling.{reads, Local, Moved}
use Rattle.model.proofs.Causal.{System, one, compare}

-- ---- what an item is
pub node_standing : (p : Problem) (s : State) (q : ℕ) → q < p.facts → s q ≡ true → node p s q ≡ standing
unfolding node
node_standing p s q l e = cond-true _ _ _ (lt-ltb q p.facts l) ∙ cond-true _ _ _ e

pub node_added : (p : Problem) (s : State) (q : ℕ) → q < p.facts → s q ≡ false → node p s q ≡ added_by (adders p q)
unfolding node
node_added p s q l e = cond-true _ _ _ (lt-ltb q p.facts l) ∙ cond-false _ _ _ e

pub node_action : (p : Problem) (s : State) (q : ℕ) → p.facts ≤ q → q < items p → node p s q ≡ needing (action p (q - p.facts)).pre
unfolding node
node_action p s q h l = cond-false _ _ _ (le-ltb q p.facts h) ∙ cond-true _ _ _ (lt-ltb q (items p) l)

pub node_past : (p : Problem) (s : State) (q : ℕ) → items p ≤ q → node p s q ≡ absent
unfolding node
node_past p s q h =
    cond-false _ _ _ (le-ltb q p.facts (omega arith)) ∙ cond-false _ _ _ (le-ltb q (items p) h)

-- ---- causal
least_capped : (x : Table) (bs : List ℕ) → least x bs ≤ top
least_capped x [] = omega arith
least_capped x (b ∷ bs) = omega (arith, least_capped x bs)

least_falls : (x y : Table) (k : ℕ) → ((r : ℕ) → x r < k → y r ≤ x r) → (bs : List ℕ) → least x bs < k → least y bs ≤ least x bs
least_falls x y k h [] l = omega arith
least_falls x y k h (a ∷ bs) l =
    ⊎_elim (λ m. omega (arith, h a)) (λ m. omega (arith, least_falls x y k h bs (omega arith))) (cases_lt (x a) (least x bs))

-- where the values up to v fall or stay, so do those that v covers
each_falls : (x y : Table) (v : ℕ) → v < top → ((r : ℕ) → x r ≤ v → y r ≤ x r) → (ps : List ℕ) → AllByRecursion (λ w. cut w ≤ v) (map x ps) → AllZip ◌≤◌ (map y ps) (map x ps)
each_falls x y v l h [] c = tt
each_falls x y v l h (p ∷ ps) c = (h p (omega (arith, c.0)), each_falls x y v l h ps c.1)

pub side_figure : (rule : Rule) (x : Table) (n : Node) → side rule x n ≤ top
side_figure rule x standing = omega arith
side_figure rule x (added_by bs) = omega arith
side_figure rule x (needing ps) = omega arith
side_figure rule x absent = omega arith

module _ (rule : Rule) (laws : Laws rule) where
  side_falls : (x y : Table) (n : Node) → ((r : ℕ) → x r < side rule x n → y r ≤ x r) → side rule y n ≤ side rule x n
  side_falls x y standing h = omega arith
  side_falls x y (added_by bs) h =
      ⊎_elim (λ l. omega (arith, least_falls x y (least x bs + 1) (λ r m. h r (omega arith)) bs (omega arith))) (λ l. omega arith) (cases_lt (least x bs + 1) top)
  side_falls x y (needing ps) h =
      ⊎_elim
      (λ l. omega (arith, laws.monotone (map y ps) (map x ps) (each_falls x y (rule (map x ps)) (omega arith) (λ r m. h r (omega arith)) ps (laws.covers (map x ps)))))
      (λ l. omega arith)
      (cases_lt (rule (map x ps) + 1) top)
  side_falls x y absent h = omega arith

  pub system : (p : Problem) (s : State) → System (items p) (equations rule p s)
  unfolding equations
  system p s = record {
    causal = λ x y q. side_falls x y (node p s q);
    bound = λ x q. side_figure rule x (node p s q);
    beyond = λ x q h. ap (side rule x) (node_past p s q h);
  }

pub compares : Compares
compares rule laws p s = compare (equations rule p s) (system rule laws p s).causal

pub one_table : OneTable
one_table rule laws p s = one (items p) (equations rule p s) (system rule laws p s)

-- ---- the two rules
even_join : (a b : ℕ) → Even a → Even b → Even (cut (a + b))
even_join a b p q = ⊎_elim (λ l. inl (omega arith)) (λ l. inr (omega arith)) (cases_lt (a + b) top)

even_max : (a b : ℕ) → Even a → Even b → Even (cut (max a b))
even_max a b p q = ⊎_elim (λ l. inl (omega arith)) (λ l. inr (omega arith)) (cases_lt (max a b) top)

sum_figure : (vs : List ℕ) → additive_rule vs ≤ top
sum_figure [] = omega arith
sum_figure (v ∷ vs) = omega arith

sum_covers : (vs : List ℕ) → AllByRecursion (λ v. cut v ≤ additive_rule vs) vs
sum_covers [] = tt
sum_covers (v ∷ vs) = (omega arith, All-weaker _ _ (λ w h. omega (arith, sum_figure vs)) vs (sum_covers vs))

sum_monotone : (vs ws : List ℕ) → AllZip ◌≤◌ vs ws → additive_rule vs ≤ additive_rule ws
sum_monotone [] [] e = omega arith
sum_monotone [] (w ∷ ws) e = absurd e
sum_monotone (v ∷ vs) [] e = absurd e
sum_monotone (v ∷ vs) (w ∷ ws) e = omega (arith, e.0, sum_monotone vs ws e.1)

sum_even : (vs : List ℕ) → AllByRecursion Even vs → Even (additive_rule vs)
sum_even [] e = inl refl
sum_even (v ∷ vs) e = even_join v (additive_rule vs) e.0 (sum_even vs e.1)

max_figure : (vs : List ℕ) → max_rule vs ≤ top
max_figure [] = omega arith
max_figure (v ∷ vs) = omega arith

max_covers : (vs : List ℕ) → AllByRecursion (λ v. cut v ≤ max_rule vs) vs
max_covers [] = tt
max_covers (v ∷ vs) = (omega arith, All-weaker _ _ (λ w h. omega (arith, max_figure vs)) vs (max_covers vs))

max_monotone : (vs ws : List ℕ) → AllZip ◌≤◌ vs ws → max_rule vs ≤ max_rule ws
max_monotone [] [] e = omega arith
max_monotone [] (w ∷ ws) e = absurd e
max_monotone (v ∷ vs) [] e = absurd e
max_monotone (v ∷ vs) (w ∷ ws) e = omega (arith, e.0, max_monotone vs ws e.1)

max_even : (vs : List ℕ) → AllByRecursion Even vs → Even (max_rule vs)
max_even [] e = inl refl
max_even (v ∷ vs) e = even_max v (max_rule vs) e.0 (max_even vs e.1)

pub additive_laws : Laws additive_rule
additive_laws = record { figure = sum_figure; nothing = refl; covers = sum_covers; monotone = sum_monotone; even = sum_even }

pub max_laws : Laws max_rule
max_laws = record { figure = max_figure; nothing = refl; covers = max_covers; monotone = max_monotone; even = max_even }

pub both_lawful : BothLawful
both_lawful = (additive_laws, max_laws)

-- ---- an equation depends on what it reads alone
-- the items that an equation reads
abbrev pub needs_of : Node → List ℕ
needs_of standing = []
needs_of (added_by acts) = acts
needs_of (needing pre) = pre
needs_of absent = []

least_same : (x y : Table) (bs : List ℕ) → AllByRecursion (λ q. y q ≡ x q) bs → least y bs ≡ least x bs
least_same x y [] h = refl
least_same x y (b ∷ bs) h = ap₂ min h.0 (least_same x y bs h.1)

pub map_same : (x y : Table) (ps : List ℕ) → AllByRecursion (λ q. y q ≡ x q) ps → map y ps ≡ map x ps
map_same x y [] h = refl
map_same x y (p ∷ ps) h = ap₂ ◌∷◌ h.0 (map_same x y ps h.1)

pub side_same : (rule : Rule) (x y : Table) (n : Node) → AllByRecursion (λ q. y q ≡ x q) (needs_of n) → side rule y n ≡ side rule x n
side_same rule x y standing h = refl
side_same rule x y (added_by acts) h = ap (λ v. cut (v + 1)) (least_same x y acts h)
side_same rule x y (needing pre) h = ap (λ vs. cut (rule vs + 1)) (map_same x y pre h)
side_same rule x y absent h = refl

-- a list that does not name q has no member q
pub unnamed : (q : ℕ) (l : List ℕ) → names l q ≡ false → AllByRecursion (λ a. a ≢ q) l
unnamed q [] e = tt
unnamed q (a ∷ l) e = let (here, rest) = or_parts (eqb a q) (names l q) e in (eqb-false a q here, unnamed q l rest)

-- nor have the adders of f from item j on, where q is before them or the action at q does not add f
unadding : (f q j : ℕ) (acts : List Action) → (q < j) ⊎ (names (get_or acts (q - j) no_action).add f ≡ false) → AllByRecursion (λ a. a ≢ q) (adding f j acts)
unadding f q j [] h = tt
unadding f q j (a ∷ acts) h =
    let rest = unadding f q (j + 1) acts
    (⊎_elim
    (λ l. inl l)
    (λ l. ⊎_elim (λ m. inl (omega arith)) (λ e. let k : q - j ≡ suc (q - (j + 1)) = omega arith in inr (subst (λ i. names (get_or (a ∷ acts) i no_action).add f ≡ false) k e)) h)
    (cases_lt q (j + 1))) in
    cond_both (names a.add f) _ _ (AllByRecursion (λ b. b ≢ q))
    (λ on. (
      (λ i. ⊎_elim
          (λ l. omega arith)
          (λ e. let k : q - j ≡ 0 = omega arith in true≢false (sym on ∙ subst (λ i. names (get_or (a ∷ acts) i no_action).add f ≡ false) k e))
          h),
      rest,
    ))
    (λ _. rest)

unread : (p : Problem) (s : State) (r q : ℕ) → reads p r q ≡ false → AllByRecursion (λ a. a ≢ q) (needs_of (node p s r))
unfolding node
unread p s r q h =
    ⊎_elim
    (λ l.
    let e = sym (cond-true _ _ _ (lt-ltb r p.facts l)) ∙ h in
    let far : (q < p.facts) ⊎ (names (get_or p.actions (q - p.facts) no_action).add r ≡ false) =
    ⊎_elim (λ b. inl (leb-false _ _ b)) inr (and_cases _ _ e) in
    subst (λ n. AllByRecursion (λ a. a ≢ q) (needs_of n)) (sym (cond-true _ _ _ (lt-ltb r p.facts l)))
    (cond_both (s r) _ _ (λ n. AllByRecursion (λ a. a ≢ q) (needs_of n)) (λ _. tt) (λ _. unadding r q p.facts p.actions far)))
    (λ l.
    let e = sym (cond-false _ _ _ (le-ltb r p.facts l)) ∙ h in
    subst (λ n. AllByRecursion (λ a. a ≢ q) (needs_of n)) (sym (cond-false _ _ _ (le-ltb r p.facts l)))
    (cond_both (ltb r (items p)) _ _ (λ n. AllByRecursion (λ a. a ≢ q) (needs_of n)) (λ _. unnamed q (action p (r - p.facts)).pre e) (λ _. tt)))
    (cases_lt r p.facts)

pub local : Local
unfolding equations
local rule p s x y q rest r h =
    side_same rule x y (node p s r) (All-weaker (λ a. a ≢ q) (λ a. y a ≡ x a) rest (needs_of (node p s r)) (unread p s r q h))

pub moved : Moved
unfolding equations node
moved rule p s u x q e =
    ap (λ b. side rule x (cond (ltb q p.facts) (cond b standing (added_by (adders p q))) (cond (ltb q (items p)) (needing (action p (q - p.facts)).pre) absent))) e
