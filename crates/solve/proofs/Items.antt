-- What a fact's and an action's equation read. Assumes nothing.
use Rattle.std.proofs.Common.{◌≡◌, ℕ, zero, suc, ◌+◌, ◌-◌, ◌<◌, ◌≤◌, min, Bool, cond, eqb, ltb, List, [], ◌∷◌, ◌++◌, map, length, get_or, Some, true, false, sym, refl, ap, ◌∙◌, ⊎_elim, arith}
use Rattle.std.specs.List.{IsAnyAnswer, slice_get, range_with_len}
use Rattle.std.proofs.lemmas.List.{get_or_past}
use Rattle.std.proofs.lemmas.List.Elements.{contains_decides}
use Rattle.std.proofs.lemmas.Option.{slice_get-get_or}
use Rattle.std.proofs.lemmas.Bool.{cases_lt, cases_Bool, cond-true, cond-false, lt-ltb, le-ltb}
use Rattle.std.proofs.lemmas.Bool.Decides.{same_from_decides, Decides-by_or, Decides-eqb}
use Rattle.std.specs.declared.option.Option.TheVariants as option
use Rattle.figure.specs.declared.figure.Figure.{Figure}
use Rattle.figure.specs.declared.figure.Figure.TheVariants.{None}
use Rattle.figure.specs.Ranks.{top}
use Rattle.figure.proofs.Same.{rank_low}
use Rattle.model.specs.Strips.{Problem, Action, State, names, action, no_action}
use Rattle.model.specs.Figures.{Rule, Table, table, least, adding, adders, side, fact_from, action_from, equations}
use Rattle.model.proofs.Equations.{node_standing, node_added, node_action, node_past}

-- whether a list names a fact is what `contains` tells
pub contained : (l : List ℕ) (f : ℕ) (r : Bool) → IsAnyAnswer (λ y t. eqb y f ≡ t) l r → r ≡ names l f
contained l f r h =
    same_from_decides r (names l f) (contains_decides eqb Decides-eqb l f r h)
    (Decides-by_or (λ y. eqb y f) (λ y. y ≡ f) (λ xs. names xs f) (λ y. Decides-eqb y f) refl (λ _ _. refl) l)

-- ---- the action of a number
pub nth_within : {X : Type 0} (xs : List X) (k : ℕ) (x : X) → slice_get xs k ≡ Some x → k < length xs
nth_within [] k x e = absurd (let z : ◌≡◌ {A = ℕ} 0 1 = cc in omega arith)
nth_within (y ∷ xs) zero x e = omega arith
nth_within (y ∷ xs) (suc k) x e = omega (arith, nth_within xs k x e)

some_same : {X : Type 0} (x y : X) → Some x ≡ Some y → x ≡ y
some_same x y e = cc

pub nth_action : (p : Problem) (k : ℕ) (a : Action) → slice_get p.actions k ≡ Some a → action p k ≡ a
nth_action p k a e = some_same _ _ (sym (slice_get-get_or p.actions k no_action (nth_within p.actions k a e)) ∙ e)

pub nth_none : {X : Type 0} (xs : List X) (k : ℕ) → slice_get xs k ≡ option.None → length xs ≤ k
nth_none [] k e = omega arith
nth_none (y ∷ xs) zero e = absurd (let z : ◌≡◌ {A = ℕ} 0 1 = cc in omega arith)
nth_none (y ∷ xs) (suc k) e = omega (arith, nth_none xs k e)

-- the figure of an action if it adds the fact
pub adder_some : (p : Problem) (k : ℕ) (a : Action) (f : ℕ) (x : Table) (b : Bool) → slice_get p.actions k ≡ Some a → b ≡ names a.add f → cond b (x (p.facts + k)) top ≡ cond (names (action p k).add f) (x (p.facts + k)) top
adder_some p k a f x b e on = ap (λ c. cond c (x (p.facts + k)) top) (on ∙ sym (ap (λ d. names d.add f) (nth_action p k a e)))

pub adder_none : (p : Problem) (k f : ℕ) (x : Table) → slice_get p.actions k ≡ option.None → top ≡ cond (names (action p k).add f) (x (p.facts + k)) top
adder_none p k f x e =
    sym (ap (λ d. cond (names d.add f) (x (p.facts + k)) top) (get_or_past p.actions k no_action (nth_none p.actions k e)))

-- an action's right-hand side
abbrev pub action_value : Rule → Problem → Table → ℕ → ℕ
action_value rule p x k = cond (ltb k (length p.actions)) (action_from (rule (map x (action p k).pre))) top

pub action_some : (rule : Rule) (p : Problem) (x : Table) (k : ℕ) (a : Action) → slice_get p.actions k ≡ Some a → action_from (rule (map x a.pre)) ≡ action_value rule p x k
action_some rule p x k a e =
    sym (cond-true _ _ _ (lt-ltb k _ (nth_within p.actions k a e)) ∙ ap (λ d. action_from (rule (map x d.pre))) (nth_action p k a e))

pub action_none : (rule : Rule) (p : Problem) (x : Table) (k : ℕ) → slice_get p.actions k ≡ option.None → top ≡ action_value rule p x k
action_none rule p x k e = sym (cond-false _ _ _ (le-ltb k _ (nth_none p.actions k e)))

-- ---- the least figure of the actions that add a fact
pub least_low : (x : Table) (qs : List ℕ) → least x qs ≤ top
least_low x [] = omega arith
least_low x (q ∷ qs) = omega (arith, least_low x qs)

pub least_more : (x : Table) (f j : ℕ) (a : Action) (acts : List Action) → least x (adding f j (a ∷ acts)) ≡ min (cond (names a.add f) (x j) top) (least x (adding f (j + 1) acts))
least_more x f j a acts =
    let rest = adding f (j + 1) acts in
    let low = least_low x rest in
    ⊎_elim
    (λ e. ap (least x) (cond-true _ (j ∷ rest) rest e) ∙ sym (ap (λ v. min v (least x rest)) (cond-true _ (x j) top e)))
    (λ e. ap (least x) (cond-false _ (j ∷ rest) rest e) ∙ (let k = ap (λ v. min v (least x rest)) (cond-false (names a.add f) (x j) top e) in omega arith))
    (cases_Bool (names a.add f))

pub least_push : (y : Table) (ks : List ℕ) (k v : ℕ) → least y ks ≡ v → y k ≤ top → least y (ks ++ (k ∷ [])) ≡ min v (y k)
least_push y [] k v e h = omega (arith, e)
least_push y (q ∷ ks) k v e h = omega (arith, e, least_push y ks k (least y ks) refl h)

-- of the actions from number k on, by number and by the list
least_numbers : (x : Table) (f facts : ℕ) (z : ℕ → Action) (k : ℕ) (acts : List Action) → ((i : ℕ) → i < length acts → z (k + i) ≡ get_or acts i no_action) → least (λ j. cond (names (z j).add f) (x (facts + j)) top) (range_with_len k (length acts)) ≡ least x (adding f (facts + k) acts)
least_numbers x f facts z k [] h = refl
least_numbers x f facts z k (a ∷ acts) h =
    let here : z k ≡ a = ap z (let e : k ≡ k + 0 = omega arith in e) ∙ h 0 (omega arith) in
    let there = least_numbers x f facts z (k + 1) acts (λ i l. ap z (let e : k + 1 + i ≡ k + suc i = omega arith in e) ∙ h (suc i) (omega arith)) in
    ap (λ b. min (cond (names b.add f) (x (facts + k)) top) (least (λ j. cond (names (z j).add f) (x (facts + j)) top) (range_with_len (k + 1) (length acts)))) here
    ∙ ap (min (cond (names a.add f) (x (facts + k)) top)) (there ∙ ap (λ j. least x (adding f j acts)) (let e : facts + (k + 1) ≡ facts + k + 1 = omega arith in e))
    ∙ sym (least_more x f (facts + k) a acts)

-- the figure of the action of a number, if it adds the fact
abbrev pub adder_value : Problem → Table → ℕ → Table
adder_value p x f k = cond (names (action p k).add f) (x (p.facts + k)) top

pub adder_low : (p : Problem) (figures : List Figure) (f k : ℕ) → adder_value p (table figures) f k ≤ top
adder_low p figures f k = go (names (action p k).add f) where
  go : (b : Bool) → cond b (table figures (p.facts + k)) top ≤ top
  go true = rank_low (get_or figures (p.facts + k) None)
  go false = omega arith

pub least_adders : (p : Problem) (x : Table) (f n : ℕ) → n ≡ length p.actions → least (adder_value p x f) (range_with_len 0 n) ≡ least x (adders p f)
least_adders p x f n e =
    ap (λ m. least (adder_value p x f) (range_with_len 0 m)) e
    ∙ least_numbers x f p.facts (action p) 0 p.actions (λ i l. ap (λ j. get_or p.actions j no_action) (let e : 0 + i ≡ i = omega arith in e))
    ∙ ap (λ j. least x (adding f j p.actions)) (let e : p.facts + 0 ≡ p.facts = omega arith in e)

-- ---- the two kinds of equations
module _ (rule : Rule) (p : Problem) (s : State) (x : Table) where
  pub fact_equation : (f v : ℕ) → f < p.facts → v ≡ cond (s f) 0 (fact_from (least x (adders p f))) → v ≡ equations rule p s x f
  unfolding equations
  fact_equation f v l is =
      is ∙ ⊎_elim
      (λ e. cond-true _ _ _ e ∙ sym (ap (side rule x) (node_standing p s f l e)))
      (λ e. cond-false _ _ _ e ∙ sym (ap (side rule x) (node_added p s f l e)))
      (cases_Bool (s f))

  action_at : (q : ℕ) → p.facts ≤ q → action_value rule p x (q - p.facts) ≡ equations rule p s x q
  unfolding equations
  action_at q h =
      ⊎_elim
      (λ l. cond-true _ _ _ (lt-ltb _ _ l) ∙ sym (ap (side rule x) (node_action p s q h (omega arith))))
      (λ l. cond-false _ _ _ (le-ltb _ _ l) ∙ sym (ap (side rule x) (node_past p s q (omega arith))))
      (cases_lt (q - p.facts) (length p.actions))

  pub action_equation : (n q v : ℕ) → n ≡ p.facts → n ≤ q → v ≡ action_value rule p x (q - n) → v ≡ equations rule p s x q
  action_equation n q v e h is = is ∙ ap (λ m. action_value rule p x (q - m)) e ∙ action_at q (omega arith)
