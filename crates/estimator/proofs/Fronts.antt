-- What holds of every member of a list, and lists whose members are moved to the front. Assumes nothing.
use Rattle.std.proofs.Common.{◌≡◌, ℕ, zero, suc, ◌+◌, ◌<◌, ◌≤◌, min, List, [], ◌∷◌, ◌++◌, length, get_or, take, drop, Some, refl, ap, ◌∙◌, subst, arith}
use Rattle.std.specs.List.{AllByRecursion, AllWithin, slice_get}

module _ {X : Type 0} (P : X → Type 0) where
  pub every_append : (xs ys : List X) → AllByRecursion P xs → AllByRecursion P ys → AllByRecursion P (xs ++ ys)
  every_append [] ys h k = k
  every_append (x ∷ xs) ys h k = (h.0, every_append xs ys h.1 k)

  pub every_take : (n : ℕ) (xs : List X) → AllByRecursion P xs → AllByRecursion P (take n xs)
  every_take zero xs h = tt
  every_take (suc n) [] h = tt
  every_take (suc n) (x ∷ xs) h = (h.0, every_take n xs h.1)

  pub every_drop : (n : ℕ) (xs : List X) → AllByRecursion P xs → AllByRecursion P (drop n xs)
  every_drop zero xs h = h
  every_drop (suc n) [] h = tt
  every_drop (suc n) (x ∷ xs) h = every_drop n xs h.1

  pub every_nth : (xs : List X) (i : ℕ) (x : X) → slice_get xs i ≡ Some x → AllByRecursion P xs → P x
  every_nth [] i x e h = absurd (let z : ◌≡◌ {A = ℕ} 0 1 = cc in omega arith)
  every_nth (y ∷ xs) zero x e h = subst P (let z : y ≡ x = cc in z) h.0
  every_nth (y ∷ xs) (suc i) x e h = every_nth xs i x e h.1

  -- one more of the first
  pub every_more : (xs : List X) (i : ℕ) (d : X) → i < length xs → AllByRecursion P (take i xs) → P (get_or xs i d) → AllByRecursion P (take (i + 1) xs)
  every_more xs i d lt h x = let e : suc i ≡ i + 1 = omega arith in subst (λ n. AllByRecursion P (take n xs)) e (go i xs lt h x) where
    go : (i : ℕ) (xs : List X) → i < length xs → AllByRecursion P (take i xs) → P (get_or xs i d) → AllByRecursion P (take (suc i) xs)
    go i [] lt h x = tt
    go zero (y ∷ xs) lt h x = (x, tt)
    go (suc i) (y ∷ xs) lt h x = (h.0, go i xs (omega arith) h.1 x)

  -- what holds at each of the first i
  pub every_below : (i : ℕ) (xs : List X) → AllWithin P xs 0 i → AllByRecursion P (take i xs)
  every_below zero xs h = tt
  every_below (suc i) [] h = tt
  every_below (suc i) (x ∷ xs) h = (h 0 x (omega arith) (omega arith), every_below i xs (λ k d le lt. h (suc k) d (omega arith) (omega arith)))

-- there is a member at each place below the length
pub there : {X : Type 0} (xs : List X) (i : ℕ) → i < length xs → (x : X) × (slice_get xs i ≡ Some x)
there [] i lt = absurd (omega arith)
there (x ∷ xs) zero lt = (x, refl)
there (x ∷ xs) (suc i) lt = there xs i (omega arith)

-- of the first ones, up to one at i: that one, and those before it
pub last_taken : {X : Type 0} (l : List X) (i : ℕ) (x : X) → slice_get l i ≡ Some x → drop i (take (suc i) l) ≡ x ∷ []
last_taken [] i x e = absurd (let z : ◌≡◌ {A = ℕ} 0 1 = cc in omega arith)
last_taken (y ∷ l) zero x e = let z : y ≡ x = cc in ap (λ w. w ∷ []) z
last_taken (y ∷ l) (suc i) x e = last_taken l i x e

pub first_taken : {X : Type 0} (l : List X) (i : ℕ) → take i (take (suc i) l) ≡ take i l
first_taken l zero = refl
first_taken [] (suc i) = refl
first_taken (y ∷ l) (suc i) = ap (λ z. y ∷ z) (first_taken l i)

-- the first n of a list, turned by one, before the rest: the last of them has come to the front
pub fronted : {X : Type 0} (l : List X) (i n k : ℕ) (x : X) (front : List X) → n ≡ suc i → k ≡ i → slice_get l i ≡ Some x → front ≡ drop k (take n l) ++ take k (take n l) → front ++ drop n l ≡ x ∷ (take i l ++ drop (suc i) l)
fronted l i n k x front e d is turned =
    let one : drop k (take n l) ≡ x ∷ [] = ap (λ m. drop m (take n l)) d ∙ ap (λ m. drop i (take m l)) e ∙ last_taken l i x is in
    let before : take k (take n l) ≡ take i l = ap (λ m. take m (take n l)) d ∙ ap (λ m. take i (take m l)) e ∙ first_taken l i in
    ap (λ m. m ++ drop n l) (turned ∙ ap (λ m. m ++ take k (take n l)) one ∙ ap (λ m. x ∷ m) before) ∙ ap (λ m. x ∷ (take i l ++ drop m l)) e

-- the first n of a list whose member at i was moved to the front
pub take_moved : {X : Type 0} (i n : ℕ) (l : List X) (x : X) → i < n → n ≤ length l → take n (x ∷ (take i l ++ drop (suc i) l)) ≡ x ∷ (take i (take n l) ++ drop (suc i) (take n l))
take_moved i zero l x lt le = absurd (omega arith)
take_moved i (suc n) [] x lt le = absurd (omega arith)
take_moved zero (suc n) (y ∷ l) x lt le = refl
take_moved (suc i) (suc n) (y ∷ l) x lt le = ap (λ z. x ∷ z) (take_moved i n l y (omega arith) (omega arith))

-- a new one in front: the first i stay
pub take_front : {X : Type 0} (i : ℕ) (l m : List X) (x : X) → i ≤ length l → take (suc i) (x ∷ (take i l ++ m)) ≡ x ∷ take i l
take_front i l m x le = ap (λ z. x ∷ z) (go i l le) where
  go : (i : ℕ) (l : List _) → i ≤ length l → take i (take i l ++ m) ≡ take i l
  go zero l le = refl
  go (suc i) [] le = absurd (omega arith)
  go (suc i) (y ∷ l) le = ap (λ z. y ∷ z) (go i l (omega arith))

pub take_take : {X : Type 0} (i n : ℕ) (l : List X) → take i (take n l) ≡ take (min i n) l
take_take zero n l = ap (λ k. take k l) (let z : 0 ≡ min 0 n = omega arith in z)
take_take (suc i) zero l = ap (λ k. take k l) (let z : 0 ≡ min (suc i) 0 = omega arith in z)
take_take {X} (suc i) (suc n) [] = let e : suc (min i n) ≡ min (suc i) (suc n) = omega arith in ap {A = ℕ} {B = List X} (λ k. take k []) e
take_take {X} (suc i) (suc n) (y ∷ l) = let e : suc (min i n) ≡ min (suc i) (suc n) = omega arith in ap (λ z. y ∷ z) (take_take i n l) ∙ ap {A = ℕ} {B = List X} (λ k. take k (y ∷ l)) e

pub nth_take : {X : Type 0} (i n : ℕ) (l : List X) → i < n → slice_get (take n l) i ≡ slice_get l i
nth_take i zero l lt = absurd (omega arith)
nth_take i (suc n) [] lt = refl
nth_take zero (suc n) (y ∷ l) lt = refl
nth_take (suc i) (suc n) (y ∷ l) lt = nth_take i n l (omega arith)
