-- Lists of a lawful problem, by place.
use Rattle.std.proofs.Common.{◌≡◌, ℕ, zero, suc, ◌+◌, ◌-◌, ◌<◌, List, [], ◌∷◌, ◌++◌, length, get_or, sym, refl, ap, ◌∙◌, subst, ⊎_elim, arith, length-append}
use Rattle.std.specs.List.{AllByRecursion}
use Rattle.std.proofs.lemmas.Bool.{cases_lt}
use Rattle.std.proofs.lemmas.List.{get_or_append_left, get_or-append_right, get_or_past}
use Rattle.model.specs.Strips.{Rising}

pub rises : (l : List ℕ) → Rising l → (k : ℕ) → k + 1 < length l → get_or l k 0 < get_or l (k + 1) 0
rises [] r k h = absurd (omega arith)
rises (x ∷ []) r k h = absurd (omega arith)
rises (x ∷ y ∷ l) r zero h = r.0
rises (x ∷ y ∷ l) r (suc k) h =
    let e : suc k + 1 ≡ suc (k + 1) = omega arith in
    subst (λ j. get_or (y ∷ l) k 0 < get_or (x ∷ y ∷ l) j 0) (sym e) (rises (y ∷ l) r.1 k (omega arith))

pub known : (n : ℕ) (l : List ℕ) → AllByRecursion (λ f. f < n) l → (k : ℕ) → k < length l → get_or l k 0 < n
known n [] e k h = absurd (omega arith)
known n (x ∷ l) e zero h = e.0
known n (x ∷ l) e (suc k) h = known n l e.1 k (omega arith)

-- what holds of every byte of two lists holds of every byte of both in a row
pub below_append : (n : ℕ) (xs ys : List ℕ) → ((k : ℕ) → k < length xs → get_or xs k 0 < n) → ((k : ℕ) → k < length ys → get_or ys k 0 < n)
    → (k : ℕ) → k < length (xs ++ ys) → get_or (xs ++ ys) k 0 < n
below_append n xs ys f g k h =
    ⊎_elim
    (λ l. subst (λ x. x < n) (sym (get_or_append_left xs ys 0 k l)) (f k l))
    (λ l. subst (λ x. x < n) (sym (get_or-append_right xs ys (length xs) k 0 refl l)) (g (k - length xs) (omega (arith, length-append xs ys))))
    (cases_lt k (length xs))

-- a list that is small within is small everywhere
pub small_past : (n : ℕ) (l : List ℕ) → 0 < n → ((k : ℕ) → k < length l → get_or l k 0 < n) → (k : ℕ) → get_or l k 0 < n
small_past n l z f k = ⊎_elim (λ h. f k h) (λ h. subst (λ x. x < n) (sym (get_or_past l k 0 h)) z) (cases_lt k (length l))

-- the place k of the second of two lists in a row
pub right : (xs ys : List ℕ) (i k : ℕ) → i ≡ length xs + k → get_or (xs ++ ys) i 0 ≡ get_or ys k 0
right xs ys i k e =
    let q : i - length xs ≡ k = omega arith in
    get_or-append_right xs ys (length xs) i 0 refl (omega arith) ∙ ap (λ j. get_or ys j 0) q
