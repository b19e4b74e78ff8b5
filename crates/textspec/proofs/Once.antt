-- A line states one list of bytes or has one first fault.
use Rattle.std.proofs.Common.{◌≡◌, ℕ, zero, suc, ◌+◌, ◌-◌, ◌*◌, ◌/◌, ◌%◌, ◌<◌, ◌≤◌, true, cond, ◌||◌, eqb, leb, List, [], ◌∷◌, ◌++◌, length, get_or, sym, refl, ap, ◌∙◌, ⊎_elim, arith, length-append}
use Rattle.std.proofs.lemmas.Bool.{cases_lt, false≢true}
use Rattle.std.proofs.lemmas.List.{get_or_append_left, get_or_at}
use Rattle.std.proofs.lemmas.Bool.Decides.{nat_tests}
use Rattle.textspec.specs.Hex.{is_digit, digit, hex, fault_at, FirstFault, LineIs}
use Rattle.textspec.proofs.Hexes.{digit_within}

clear : (n column c : ℕ) → column - 1 < n → 1 ≤ column → column < 515 → is_digit c ≡ true
    → ◌≡◌ {A = ℕ} (cond (leb (n + 1) column) 7 (cond (eqb c 10) (cond (eqb column 1 || eqb (column % 2) 0) 1 0) (cond (is_digit c) (cond (eqb column 515) 2 0) 1))) 0
clear n column c w a b e = grind (arith, nat_tests)

ended : (n column c : ℕ) → column - 1 < n → 1 < column → column % 2 ≡ 1 → c ≡ 10
    → ◌≡◌ {A = ℕ} (cond (leb (n + 1) column) 7 (cond (eqb c 10) (cond (eqb column 1 || eqb (column % 2) 0) 1 0) (cond (is_digit c) (cond (eqb column 515) 2 0) 1))) 0
ended n column c w a b e = grind (arith, nat_tests)

no_fault : (xs : List ℕ) (column : ℕ) → 1 ≤ column → column < 515 → is_digit (get_or xs (column - 1) 0) ≡ true → fault_at xs column ≡ 0
no_fault xs column a b e = clear (length xs) column (get_or xs (column - 1) 0) (digit_within xs (column - 1) e) a b e

earlier : (xs : List ℕ) (n p m q : ℕ) → FirstFault xs n p → FirstFault xs m q → p < q → ⊥
earlier xs n p m q g h l =
    let f = g.from in
    let d : is_digit (get_or xs (p - 1) 0) ≡ true = h.before (p - 1) (omega arith) in
    let u = h.upto in
    omega (arith, no_fault xs p f (omega arith) d, g.here, g.fault)

-- a line has at most one first fault
pub one_fault : (xs : List ℕ) (n p m q : ℕ) → FirstFault xs n p → FirstFault xs m q → (n ≡ m) × (p ≡ q)
one_fault xs n p m q g h =
    ⊎_elim (λ l. absurd (earlier xs n p m q g h l))
    (λ l. ⊎_elim (λ k. absurd (earlier xs m q n p h g k)) (λ k. let e : p ≡ q = omega arith in (sym g.here ∙ ap (fault_at xs) e ∙ h.here, e)) (cases_lt q p))
    (cases_lt p q)

length_hex : (b : List ℕ) → length (hex b) ≡ 2 * length b
length_hex [] = refl
length_hex (x ∷ b) = omega (arith, length_hex b)

is_one : (n : ℕ) → n < 16 → is_digit (digit n) ≡ true
is_one n h = grind (arith, nat_tests)

hex_at : (b : List ℕ) → ((i : ℕ) → get_or b i 0 < 256) → (k : ℕ) → k < length (hex b) → is_digit (get_or (hex b) k 0) ≡ true
hex_at [] s k h = absurd (omega arith)
hex_at (x ∷ b) s zero h = let l = s 0 in is_one (x / 16) (omega arith)
hex_at (x ∷ b) s (suc zero) h = is_one (x % 16) (omega arith)
hex_at (x ∷ b) s (suc (suc k)) h = hex_at b (λ i. s (suc i)) k (omega arith)

-- what has a fault states no bytes
pub not_both : (xs rest b : List ℕ) (n p : ℕ) → FirstFault xs n p → LineIs xs rest b → ⊥
not_both xs rest b n p g h =
    let L = length (hex b) in
    let size = length_hex b in
    let f = g.from in let few = h.sized.few in let some = h.sized.some in
    let all : length xs ≡ length (hex b ++ 10 ∷ rest) = ap length h.is in
    let sum = length-append (hex b) (10 ∷ rest) in
    let end : get_or xs L 0 ≡ 10 = ap (λ ys. get_or ys L 0) h.is ∙ get_or_at (hex b) 10 rest 0 L refl in
    ⊎_elim
    (λ l. let d : is_digit (get_or xs (p - 1) 0) ≡ true = ap (λ ys. is_digit (get_or ys (p - 1) 0)) h.is ∙ ap is_digit (get_or_append_left (hex b) (10 ∷ rest) 0 (p - 1) l) ∙ hex_at b h.sized.small (p - 1) l in
    omega (arith, no_fault xs p f (omega arith) d, g.here, g.fault))
    (λ l. ⊎_elim
    (λ k. false≢true (sym (ap is_digit end) ∙ g.before L (omega arith)))
    (λ k. let e : p - 1 ≡ L = omega arith in
    omega (arith, ended (length xs) p (get_or xs (p - 1) 0) (omega arith) (omega arith) (omega arith) (ap (λ i. get_or xs i 0) e ∙ end), g.here, g.fault))
    (cases_lt (L + 1) p))
    (cases_lt (p - 1) L)

big : (n : ℕ) → 48 ≤ digit n
big n = grind (arith, nat_tests)

digit_same : (n m : ℕ) → n < 16 → m < 16 → digit n ≡ digit m → n ≡ m
digit_same n m h l e = grind (arith, nat_tests)

hex_same : (b c r t : List ℕ) → ((i : ℕ) → get_or b i 0 < 256) → ((i : ℕ) → get_or c i 0 < 256) → hex b ++ 10 ∷ r ≡ hex c ++ 10 ∷ t → (r ≡ t) × (b ≡ c)
hex_same [] [] r t s u e = (cc, refl)
hex_same [] (y ∷ c) r t s u e = let z : 10 ≡ digit (y / 16) = cc in absurd (omega (arith, big (y / 16)))
hex_same (x ∷ b) [] r t s u e = let z : digit (x / 16) ≡ 10 = cc in absurd (omega (arith, big (x / 16)))
hex_same (x ∷ b) (y ∷ c) r t s u e =
    let e1 : digit (x / 16) ≡ digit (y / 16) = cc in
    let e2 : digit (x % 16) ≡ digit (y % 16) = cc in
    let e3 : hex b ++ 10 ∷ r ≡ hex c ++ 10 ∷ t = cc in
    let p = s 0 in let q = u 0 in
    let h = digit_same (x / 16) (y / 16) (omega arith) (omega arith) e1 in
    let l = digit_same (x % 16) (y % 16) (omega arith) (omega arith) e2 in
    let v : x ≡ y = omega arith in
    let w = hex_same b c r t (λ i. s (suc i)) (λ i. u (suc i)) e3 in
    (w.0, let z = w.1 in cc)

-- a line states one list of bytes
pub one_line : (xs r b t c : List ℕ) → LineIs xs r b → LineIs xs t c → (r ≡ t) × (b ≡ c)
one_line xs r b t c g h = hex_same b c r t g.sized.small h.sized.small (sym g.is ∙ h.is)
