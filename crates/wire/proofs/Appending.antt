-- Bytes put behind others, piece by piece. Assumes nothing.
--
--   twice         two pieces are one
--   thrice        three pieces are one
--   one_further   the next element of a list has had its piece put
--   to_the_end    every element has
--   joined_map    pieces of elements that are made of others
--   one_step      the next of the first elements has had its piece put
--   take_least    the first elements, as far as there are any
use Rattle.std.proofs.Common.{◌≡◌, ℕ, ◌+◌, ◌<◌, ◌≤◌, min, List, [], ◌∷◌, ◌++◌, map, length, get_or, take, drop, sym, refl, ap, ◌∙◌, ⊎_elim, arith}
use Rattle.std.specs.List.{flat_map}
use Rattle.std.proofs.lemmas.List.{append-nil, append_assoc, at_drop_more, at_drop_all, flat_map_more, take_more, take_all}
use Rattle.std.proofs.lemmas.Bool.{cases_lt}

pub twice : (u v w a b : List ℕ) → v ≡ u ++ a → w ≡ v ++ b → w ≡ u ++ (a ++ b)
twice u v w a b e f = f ∙ ap (λ t. t ++ b) e ∙ append_assoc u a b

pub thrice : (u v w x a b d : List ℕ) → v ≡ u ++ a → w ≡ v ++ b → x ≡ w ++ d → x ≡ u ++ (a ++ (b ++ d))
thrice u v w x a b d e f g = twice u v x a (b ++ d) e (twice v w x b d f g)

pub one_further : {X : Type 0} (f : X → List ℕ) (all : List ℕ) (xs : List X) (i : ℕ) (x : X) (v w : List ℕ) → i < length xs → v ++ flat_map f (drop i xs) ≡ all → w ≡ v ++ f (get_or xs i x) → w ++ flat_map f (drop (i + 1) xs) ≡ all
one_further f all xs i x v w l h e =
    ap (λ t. t ++ flat_map f (drop (i + 1) xs)) e ∙ append_assoc v (f (get_or xs i x)) (flat_map f (drop (i + 1) xs))
    ∙ ap (λ t. v ++ t) (sym (at_drop_more (flat_map f) xs i x l)) ∙ h

pub to_the_end : {X : Type 0} (f : X → List ℕ) (all : List ℕ) (xs : List X) (i : ℕ) (v : List ℕ) → length xs ≤ i → v ++ flat_map f (drop i xs) ≡ all → v ≡ all
to_the_end f all xs i v l h = sym (append-nil v) ∙ ap (λ t. v ++ t) (sym (at_drop_all (flat_map f) xs i l)) ∙ h

pub joined_map : {X Y : Type 0} (f : Y → List ℕ) (g : X → Y) (xs : List X) → flat_map (λ x. f (g x)) xs ≡ flat_map f (map g xs)
joined_map f g [] = refl
joined_map f g (x ∷ xs) = ap (λ t. f (g x) ++ t) (joined_map f g xs)

pub one_step : (f : ℕ → List ℕ) (xs : List ℕ) (i : ℕ) (u v w : List ℕ) → i < length xs → v ≡ u ++ flat_map f (take i xs) → w ≡ v ++ f (get_or xs i 0) → w ≡ u ++ flat_map f (take (i + 1) xs)
one_step f xs i u v w l h e =
    e ∙ ap (λ t. t ++ f (get_or xs i 0)) h ∙ flat_map_more f u (take i xs) (get_or xs i 0) ∙ ap (λ t. u ++ flat_map f t) (sym (take_more xs i 0 l))

pub take_least : (n : ℕ) (xs : List ℕ) → take (min n (length xs)) xs ≡ take n xs
take_least n xs =
    ⊎_elim
    (λ l. ap (λ m. take m xs) (omega (arith, l)))
    (λ l. take_all (min n (length xs)) xs (omega (arith, l)) ∙ sym (take_all n xs (omega (arith, l))))
    (cases_lt n (length xs))
