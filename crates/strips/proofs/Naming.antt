-- Lists of facts as states, and tests over lists. Assumes nothing.
use Rattle.std.proofs.Common.{◌≡◌, ℕ, ◌+◌, ◌<◌, Bool, true, false, not, ◌&&◌, ◌||◌, eqb, ◌⊎◌, List, [], ◌∷◌, map, length, get_or, drop, cond, find, is_some, Decides, Some, option_map, Option, sym, refl, ap, ◌∙◌, inl, inr, ⊎_elim, arith}
use Rattle.std.proofs.lemmas.Iterator.Adapters.{option_map_id}
use Rattle.std.specs.List.{AllByRecursion, list_all}
use Rattle.std.proofs.lemmas.List.{at_drop_more}
use Rattle.std.proofs.lemmas.Bool.{eqb-true, eq-eqb, and_parts, false≢true}
use Rattle.model.specs.Strips.{State, Stands, names}
use Rattle.model.specs.Rehearsals.{lacking}
use Rattle.model.proofs.Rehearsals.{every_lacking, told_lacking}

pub or_false : (a : Bool) → (a || false) ≡ a
or_false true = refl
or_false false = refl

-- one more fact is moved from the list to the state
pub or_move : (a b c : Bool) → (b || (a || c)) ≡ ((a || b) || c)
or_move true true c = refl
or_move true false c = refl
or_move false true c = refl
or_move false false c = refl

or_cases : (a b : Bool) → (a || b) ≡ true → (a ≡ true) ⊎ (b ≡ true)
or_cases true b h = inl refl
or_cases false b h = inr h

or_left : (a b : Bool) → a ≡ true → (a || b) ≡ true
or_left a b e = ap (λ x. x || b) e

or_right : (a b : Bool) → b ≡ true → (a || b) ≡ true
or_right true b e = refl
or_right false b e = e

-- each fact of a list stands exactly if every fact that it names does
pub named_stand : (s : State) (l : List ℕ) → AllByRecursion (Stands s) l → (f : ℕ) → names l f ≡ true → s f ≡ true
named_stand s [] h f e = absurd (let z : ◌≡◌ {A = ℕ} 0 1 = cc in omega arith)
named_stand s (x ∷ l) h f e =
    ⊎_elim (λ p. ap s (sym (eqb-true x f p)) ∙ h.0) (λ p. named_stand s l h.1 f p) (or_cases (eqb x f) (names l f) e)

pub stand_named : (s : State) (l : List ℕ) → ((f : ℕ) → names l f ≡ true → s f ≡ true) → AllByRecursion (Stands s) l
stand_named s [] h = tt
stand_named s (x ∷ l) h =
    (h x (or_left (eqb x x) (names l x) (eq-eqb x x refl)), stand_named s l (λ f e. h f (or_right (eqb x f) (names l f) e)))

module _ {X : Type 0} (p : X → Bool) where
  pub pass_more : (xs : List X) (i : ℕ) (d : X) → i < length xs → p (get_or xs i d) ≡ true → list_all p (drop i xs) ≡ list_all p (drop (i + 1) xs)
  pass_more xs i d h t = at_drop_more (list_all p) xs i d h ∙ ap (λ b. b && list_all p (drop (i + 1) xs)) t

  pub pass_stop : (xs : List X) (i : ℕ) (d : X) → i < length xs → p (get_or xs i d) ≡ false → list_all p (drop i xs) ≡ false
  pass_stop xs i d h t = at_drop_more (list_all p) xs i d h ∙ ap (λ b. b && list_all p (drop (i + 1) xs)) t

  pub pass_every : (xs : List X) → list_all p xs ≡ true → AllByRecursion (λ x. p x ≡ true) xs
  pass_every [] h = tt
  pass_every (x ∷ xs) h = let q = and_parts (p x) (list_all p xs) h in (q.0, pass_every xs q.1)

module _ {X Y : Type 0} (P : X → Type 0) (Q : Y → Type 0) where
  pub every_map : (f : X → Y) → ((x : X) → P x → Q (f x)) → (xs : List X) → AllByRecursion P xs → AllByRecursion Q (map f xs)
  every_map f h [] e = tt
  every_map f h (x ∷ xs) e = (h x e.0, every_map f h xs e.1)

module _ {X : Type 0} (P Q : X → Type 0) where
  pub every_like : ((x : X) → P x → Q x) → (xs : List X) → AllByRecursion P xs → AllByRecursion Q xs
  every_like h [] e = tt
  every_like h (x ∷ xs) e = (h x e.0, every_like h xs e.1)

-- nothing is lacking exactly if each fact stands
pub lacking_decides : (s : State) (l : List ℕ) (o : Option ℕ) (r : Bool) → o ≡ lacking s l → is_some o ≡ not r → Decides r (AllByRecursion (Stands s) l)
lacking_decides s l o true e h = ((λ _. ⊎_elim (λ every. every.0) (λ first. absurd (false≢true (sym h ∙ ap is_some (e ∙ first.2)))) (told_lacking s l)), λ _. refl)
lacking_decides s l o false e h = ((λ z. absurd (false≢true z)), (λ every. absurd (false≢true (sym (ap is_some (e ∙ every_lacking s l every)) ∙ h))))

found : (s : State) (l : List ℕ) → find (λ f. not (s f)) l ≡ lacking s l
found s [] = refl
found s (f ∷ l) = turn (s f) ∙ ap (λ o. cond (s f) o (Some f)) (found s l)
  where
    turn : (b : Bool) → cond (not b) (Some f) (find (λ g. not (s g)) l) ≡ cond b (find (λ g. not (s g)) l) (Some f)
    turn true = refl
    turn false = refl

-- what is lacking is the first fact that does not stand
pub find_lacking : (s : State) (l : List ℕ) (o : Option ℕ) → option_map (λ f. f) o ≡ find (λ f. not (s f)) l → o ≡ lacking s l
find_lacking s l o e = sym (option_map_id o) ∙ e ∙ found s l
