-- Who reads an item is among its readers. Assumes nothing.
use Rattle.std.proofs.Common.{◌≡◌, ℕ, zero, suc, ◌+◌, ◌-◌, ◌<◌, ◌≤◌, Bool, true, false, cond, ◌&&◌, ◌||◌, eqb, ltb, leb, List, [], ◌∷◌, get_or, sym, refl, ap, ◌∙◌, subst, ⊎_elim, arith}
use Rattle.std.specs.List.{AllByRecursion}
use Rattle.std.proofs.lemmas.Bool.{cases_lt, cond-true, cond-false, eq-eqb, ne_eqb, lt-ltb, le-ltb, lt-leb, false≢true}
use Rattle.model.specs.Strips.{Problem, Action, Lawful, Fits, no_action, names, action}
use Rattle.model.specs.Settling.{reads}
use Rattle.session_theory.specs.Readers.{needing_items, readers}

-- a member above the facts is named nowhere
unnamed_above : (n f : ℕ) (l : List ℕ) → AllByRecursion (λ g. g < n) l → n ≤ f → names l f ≡ false
unnamed_above n f [] h le = refl
unnamed_above n f (x ∷ l) h le = ap (λ b. b || names l f) (ne_eqb x f (λ e. omega (arith, h.0))) ∙ unnamed_above n f l h.1 le

needs_above : (n f k : ℕ) (acts : List Action) → AllByRecursion (Fits n) acts → n ≤ f → names (get_or acts k no_action).pre f ≡ false
needs_above n f k [] h le = refl
needs_above n f zero (a ∷ acts) h le = unnamed_above n f a.pre h.0.pre.known le
needs_above n f (suc k) (a ∷ acts) h le = needs_above n f k acts h.1 le

named_later : (b : Bool) (j r : ℕ) (l : List ℕ) → names l r ≡ true → names (cond b (j ∷ l) l) r ≡ true
named_later true j r l e = or_true (eqb j r) (names l r) e where
  or_true : (x y : Bool) → y ≡ true → (x || y) ≡ true
  or_true true y e = refl
  or_true false y e = e
named_later false j r l e = e

listed_needer : (f j k : ℕ) (acts : List Action) → names (get_or acts k no_action).pre f ≡ true → names (needing_items f j acts) (j + k) ≡ true
listed_needer f j k [] e = absurd (false≢true e)
listed_needer f j zero (a ∷ acts) e =
    ap (λ b. names (cond b (j ∷ needing_items f (j + 1) acts) (needing_items f (j + 1) acts)) (j + 0)) e ∙ ap (λ b. b || names (needing_items f (j + 1) acts) (j + 0)) (eq-eqb j (j + 0) (omega arith))
listed_needer f j (suc k) (a ∷ acts) e =
    named_later (names a.pre f) j (j + suc k) (needing_items f (j + 1) acts)
    (subst (λ i. names (needing_items f (j + 1) acts) i ≡ true) (omega arith) (listed_needer f (j + 1) k acts e))

pub read_listed : (p : Problem) → Lawful p → (q r : ℕ) → reads p r q ≡ true → names (readers p q) r ≡ true
read_listed p laws q r e =
    ⊎_elim
    (λ rl. let er : (leb p.facts q && names (action p (q - p.facts)).add r) ≡ true = sym (cond-true _ _ _ (lt-ltb r p.facts rl)) ∙ e in
    ⊎_elim
    (λ ql. absurd (false≢true (sym (ap (λ b. b && names (action p (q - p.facts)).add r) (le_ltb_not ql)) ∙ er)))
    (λ ql. ap (λ l. names l r) (cond-false (ltb q p.facts) _ _ (le-ltb q p.facts ql)) ∙ and_right (leb p.facts q) _ er)
    (cases_lt q p.facts))
    (λ rl. let er : names (action p (r - p.facts)).pre q ≡ true = sym (cond-false _ _ _ (le-ltb r p.facts rl)) ∙ e in
    ⊎_elim
    (λ ql. ap (λ l. names l r) (cond-true (ltb q p.facts) _ _ (lt-ltb q p.facts ql)) ∙ subst (λ i. names (needing_items q p.facts p.actions) i ≡ true) (omega arith) (listed_needer q p.facts (r - p.facts) p.actions er))
    (λ ql. absurd (false≢true (sym (needs_above p.facts q (r - p.facts) p.actions laws.actions_fit ql) ∙ er)))
    (cases_lt q p.facts))
    (cases_lt r p.facts) where
      and_right : (x y : Bool) → (x && y) ≡ true → y ≡ true
      and_right true y e = e
      and_right false y e = absurd (false≢true e)

      le_ltb_not : q < p.facts → leb p.facts q ≡ false
      le_ltb_not h = lt-leb p.facts q h
