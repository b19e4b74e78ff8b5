-- The goal figures are the heuristics' values: the facts' costs, doubled, solve the equations. Assumes nothing.
use Rattle.std.proofs.Common.{◌≡◌, ℕ, suc, ◌+◌, ◌-◌, ◌*◌, ◌/◌, ◌<◌, ◌≤◌, min, max, cond, ltb, leb, List, [], ◌∷◌, map, length, get_or, sym, refl, ap, ◌∙◌, ap₂, ⊎_elim, arith}
use Rattle.std.specs.List.{AllByRecursion}
use Rattle.std.proofs.ByRecursion.{All-weaker}
use Rattle.std.proofs.lemmas.Bool.{cases_lt, cases_Bool, cond-true, cond-false, lt-ltb, le-ltb, le-leb, lt-leb}
use Rattle.figure.specs.Ranks.{top, cut, halved}
use Rattle.model.specs.Strips.{Problem, Action, State, Lawful, items, names, action, no_action}
use Rattle.model.specs.Figures.{Rule, Laws, additive_rule, max_rule, Table, least, adding, side, equations, Solves, fact_from, action_from}
use Rattle.model.specs.Heuristics.{Value, plus, larger, smaller, SetCost, sum_of, largest_of, cheapest, Costs, doubled, cut_value, IsCost, Agrees, Heuristics}
use Rattle.model.specs.Heuristics.Value.{finite, infinite}
use Rattle.model.proofs.Causal.{agree}
use Rattle.model.proofs.Equations.{system, node_standing, node_added, node_action, node_past, map_same, additive_laws, max_laws}
use Rattle.model.proofs.Parities.{pre_known}
use Rattle.model.proofs.Values.{sum_reads, largest_reads}
use Rattle.model.proofs.OneCost.{one_cost}

twice_smaller : (u v : Value) → doubled (smaller u v) ≡ min (doubled u) (doubled v)
twice_smaller infinite infinite = omega arith
twice_smaller infinite (finite b) = omega arith
twice_smaller (finite a) infinite = omega arith
twice_smaller (finite a) (finite b) = omega arith

twice_plus : (u v : Value) → cut (doubled u + doubled v) ≡ doubled (plus u v)
twice_plus infinite v = omega arith
twice_plus (finite a) infinite = omega arith
twice_plus (finite a) (finite b) = omega arith

twice_low : (v : Value) → doubled v ≤ top
twice_low infinite = omega arith
twice_low (finite a) = omega arith

twice_larger : (u v : Value) → cut (max (doubled u) (doubled v)) ≡ doubled (larger u v)
twice_larger infinite v = omega (arith, twice_low v)
twice_larger (finite a) infinite = omega arith
twice_larger (finite a) (finite b) = omega arith

-- two more for an action that costs one
twice_one : (v : Value) → doubled (plus (finite 1) v) ≡ fact_from (action_from (doubled v))
twice_one infinite = omega arith
twice_one (finite n) = omega arith

half_doubled : (v : Value) → halved (doubled v) ≡ cut_value v
half_doubled infinite = refl
half_doubled (finite n) =
    ⊎_elim
    (λ l.
    let h = cond-true (ltb (cut (2 * n)) top) (cut (2 * n) / 2) top (lt-ltb _ _ (omega arith)) in
    let c = cond-true (leb n 1000000) n top (le-leb _ _ (omega arith)) in
    omega (arith, h, c))
    (λ l.
    let h = cond-false (ltb (cut (2 * n)) top) (cut (2 * n) / 2) top (le-ltb _ _ (omega arith)) in
    let c = cond-false (leb n 1000000) n top (lt-leb _ _ (omega arith)) in
    omega (arith, h, c))
    (cases_lt n 1000001)

-- over found costs the rule makes what the set costs, found
abbrev Doubles : Rule → SetCost → Type 0
Doubles rule cost = (g : ℕ → Value) (l : List ℕ) → rule (map (λ f. doubled (g f)) l) ≡ doubled (cost g l)

sum_doubles : Doubles additive_rule sum_of
sum_doubles g [] = refl
sum_doubles g (f ∷ l) = ap (λ v. cut (doubled (g f) + v)) (sum_doubles g l) ∙ twice_plus (g f) (sum_of g l)

max_doubles : Doubles max_rule largest_of
max_doubles g [] = refl
max_doubles g (f ∷ l) = ap (λ v. cut (max (doubled (g f)) v)) (max_doubles g l) ∙ twice_larger (g f) (largest_of g l)

fact_min : (a b : ℕ) → fact_from (min a b) ≡ min (fact_from a) (fact_from b)
fact_min a b = omega arith

module _ (rule : Rule) (cost : SetCost) (doubles : Doubles rule cost) (p : Problem) (w : Lawful p) (s : State) (g : ℕ → Value) (e : Costs cost p s g) where
  -- the figure of an action with these preconditions
  of_pre : List ℕ → ℕ
  of_pre l = action_from (doubled (cost g l))

  found : Table
  found q = cond (ltb q p.facts) (doubled (g q)) (cond (ltb q (items p)) (of_pre (action p (q - p.facts)).pre) top)

  at_fact : (f : ℕ) → f < p.facts → found f ≡ doubled (g f)
  unfolding found
  at_fact f l = cond-true _ _ _ (lt-ltb f p.facts l)

  at_action : (q : ℕ) → p.facts ≤ q → q < items p → found q ≡ of_pre (action p (q - p.facts)).pre
  unfolding found
  at_action q h l = cond-false _ _ _ (le-ltb q p.facts h) ∙ cond-true _ _ _ (lt-ltb q (items p) l)

  at_past : (q : ℕ) → items p ≤ q → found q ≡ top
  unfolding found
  at_past q h = cond-false _ _ _ (le-ltb q p.facts (omega arith)) ∙ cond-false _ _ _ (le-ltb q (items p) h)

  map_facts : (x : Table) → ((f : ℕ) → f < p.facts → x f ≡ doubled (g f)) → (l : List ℕ) → AllByRecursion (λ f. f < p.facts) l → rule (map x l) ≡ doubled (cost g l)
  map_facts x h l k =
      ap rule (map_same (λ f. doubled (g f)) x l (All-weaker (λ f. f < p.facts) (λ f. x f ≡ doubled (g f)) h l k)) ∙ doubles g l

  -- over actions that stand from item j on
  over : (f j : ℕ) (acts : List Action) → ((i : ℕ) → i < length acts → found (j + i) ≡ of_pre (get_or acts i no_action).pre) → doubled (cheapest cost g f acts) ≡ fact_from (least found (adding f j acts))
  unfolding of_pre
  over f j [] h = refl
  over f j (a ∷ acts) h =
      let rest = over f (j + 1) acts (λ i l. ap found (let k : (j + 1) + i ≡ j + suc i = omega arith in k) ∙ h (suc i) (omega arith)) in
      let first : found j ≡ of_pre a.pre = ap found (let k : j ≡ j + 0 = omega arith in k) ∙ h 0 (omega arith) in
      ⊎_elim
      (λ b.
      ap doubled (cond-true _ _ _ b) ∙ twice_smaller (plus (finite 1) (cost g a.pre)) (cheapest cost g f acts) ∙ ap₂ min (twice_one (cost g a.pre) ∙ ap fact_from (sym first)) rest ∙
      sym (fact_min (found j) (least found (adding f (j + 1) acts))) ∙ ap (λ l. fact_from (least found l)) (sym (cond-true (names a.add f) (j ∷ adding f (j + 1) acts) (adding f (j + 1) acts) b)))
      (λ b. ap doubled (cond-false _ _ _ b) ∙ rest ∙ ap (λ l. fact_from (least found l)) (sym (cond-false (names a.add f) (j ∷ adding f (j + 1) acts) (adding f (j + 1) acts) b)))
      (cases_Bool (names a.add f))

  solved_fact : (q : ℕ) → q < p.facts → found q ≡ equations rule p s found q
  unfolding equations
  solved_fact q l =
      ⊎_elim
      (λ on. at_fact q l ∙ ap doubled (e q l ∙ cond-true _ _ _ on) ∙ ap (side rule found) (sym (node_standing p s q l on)))
      (λ off.
      at_fact q l ∙ ap doubled (e q l ∙ cond-false _ _ _ off) ∙
      over q p.facts p.actions (λ i m. at_action (p.facts + i) (omega arith) (omega arith) ∙ ap (λ k. of_pre (action p k).pre) (let k : (p.facts + i) - p.facts ≡ i = omega arith in k)) ∙
      ap (side rule found) (sym (node_added p s q l off)))
      (cases_Bool (s q))

  solved_action : (q : ℕ) → p.facts ≤ q → q < items p → found q ≡ equations rule p s found q
  unfolding equations of_pre
  solved_action q h l =
      at_action q h l ∙ ap action_from (sym (map_facts found at_fact (action p (q - p.facts)).pre (pre_known p w (q - p.facts) (omega arith)))) ∙
      ap (side rule found) (sym (node_action p s q h l))

  solved_past : (q : ℕ) → items p ≤ q → found q ≡ equations rule p s found q
  unfolding equations
  solved_past q h = at_past q h ∙ ap (side rule found) (sym (node_past p s q h))

  solved : Solves (equations rule p s) found
  solved q =
      ⊎_elim (solved_fact q) (λ h. ⊎_elim (solved_action q h) (solved_past q) (cases_lt q (items p))) (cases_lt q p.facts)

  is_cost : Laws rule → (x : Table) → Solves (equations rule p s) x → IsCost rule cost p x g
  is_cost laws x sx =
      let same : (f : ℕ) → f < p.facts → x f ≡ doubled (g f) =
      λ f l. agree (equations rule p s) (system rule laws p s).causal x found sx solved f ∙ at_fact f l in
      record { facts = same; goal = ap halved (map_facts x same p.goal w.goal.known) ∙ half_doubled (cost g p.goal) }

agrees : (rule : Rule) (cost : SetCost) → Laws rule → Doubles rule cost → Agrees rule cost
agrees rule cost laws doubles p w s x sx g e = is_cost rule cost doubles p w s g e laws x sx

pub heuristics : Heuristics
heuristics = record {
  one_add = one_cost sum_of sum_reads;
  one_max = one_cost largest_of largest_reads;
  add = agrees additive_rule sum_of additive_laws sum_doubles;
  max = agrees max_rule largest_of max_laws max_doubles;
}
