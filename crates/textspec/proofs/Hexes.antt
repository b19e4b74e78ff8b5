-- Digits and bytes.
use Rattle.std.proofs.Common.{◌≡◌, ℕ, zero, suc, ◌+◌, ◌-◌, ◌*◌, ◌/◌, ◌%◌, ◌<◌, ◌≤◌, true, ◌&&◌, List, [], ◌∷◌, ◌++◌, length, get_or, take, drop, sym, refl, ap, ◌∙◌, ⊎_elim, arith, length-take}
use Rattle.std.proofs.lemmas.Bool.{and_parts, and_from, cases_lt, false≢true}
use Rattle.std.proofs.lemmas.Bool.Decides.{nat_tests}
use Rattle.std.proofs.lemmas.List.{drop_more, take-append-drop, get_or_past}
use Rattle.textspec.specs.Hex.{is_digit, value, digit, hex, bytes, digits_only, DigitsBefore}

pub length_bytes : (ds : List ℕ) → length (bytes ds) ≡ length ds / 2
length_bytes [] = refl
length_bytes (a ∷ []) = refl
length_bytes (a ∷ b ∷ ds) = omega (arith, length_bytes ds)

pub bytes_at : (ds : List ℕ) (i : ℕ) → i < length (bytes ds) → get_or (bytes ds) i 0 ≡ value (get_or ds (2 * i) 0) * 16 + value (get_or ds (2 * i + 1) 0)
bytes_at [] i h = absurd (omega arith)
bytes_at (a ∷ []) i h = absurd (omega arith)
bytes_at (a ∷ b ∷ ds) zero h = omega arith
bytes_at (a ∷ b ∷ ds) (suc i) h =
    let p : 2 * suc i ≡ suc (suc (2 * i)) = omega arith in
    let q : 2 * suc i + 1 ≡ suc (suc (2 * i + 1)) = omega arith in
    bytes_at ds i (omega arith)
    ∙ sym (ap (λ n. value (get_or (a ∷ b ∷ ds) n 0) * 16 + value (get_or (a ∷ b ∷ ds) (2 * suc i + 1) 0)) p
    ∙ ap (λ n. value (get_or ds (2 * i) 0) * 16 + value (get_or (a ∷ b ∷ ds) n 0)) q)

pub digit_at : (ds : List ℕ) (k : ℕ) → digits_only ds ≡ true → k < length ds → is_digit (get_or ds k 0) ≡ true
digit_at [] k e h = absurd (omega arith)
digit_at (d ∷ ds) zero e h = (and_parts _ _ e).0
digit_at (d ∷ ds) (suc k) e h = digit_at ds k (and_parts _ _ e).1 (omega arith)

digit_value : (c : ℕ) → is_digit c ≡ true → digit (value c) ≡ c
digit_value c e = grind (arith, nat_tests)

value_small : (c : ℕ) → is_digit c ≡ true → value c < 16
value_small c e = grind (arith, nat_tests)

pub hex_bytes : (ds : List ℕ) → digits_only ds ≡ true → length ds % 2 ≡ 0 → hex (bytes ds) ≡ ds
hex_bytes [] e h = refl
hex_bytes (a ∷ []) e h = absurd (omega arith)
hex_bytes (a ∷ b ∷ ds) e h =
    let p = and_parts (is_digit a) (is_digit b && digits_only ds) e in
    let q = and_parts (is_digit b) (digits_only ds) p.1 in
    let small = value_small b q.0 in
    let high : (16 * value a + value b) / 16 ≡ value a = omega arith in
    let low : (16 * value a + value b) % 16 ≡ value b = omega arith in
    let e1 = ap digit high ∙ digit_value a p.0 in
    let e2 = ap digit low ∙ digit_value b q.0 in
    let e3 = hex_bytes ds q.1 (omega arith) in
    cc

pub taken : (xs : List ℕ) (n : ℕ) → ((k : ℕ) → k < n → is_digit (get_or xs k 0) ≡ true) → digits_only (take n xs) ≡ true
taken xs zero h = refl
taken [] (suc n) h = refl
taken (x ∷ xs) (suc n) h = and_from _ _ (h 0 (omega arith)) (taken xs n (λ k l. h (suc k) (omega arith)))

-- a line of n digits
pub line_there : (xs : List ℕ) (n : ℕ) → n < length xs → n % 2 ≡ 0 → digits_only (take n xs) ≡ true → get_or xs n 0 ≡ 10
    → xs ≡ hex (bytes (take n xs)) ++ 10 ∷ drop (n + 1) xs
line_there xs n h even all end =
    let e1 : take n xs ++ drop n xs ≡ xs = take-append-drop n xs in
    let e2 : drop n xs ≡ get_or xs n 0 ∷ drop (n + 1) xs = drop_more xs n 0 h in
    let e3 : hex (bytes (take n xs)) ≡ take n xs = hex_bytes (take n xs) all (omega (arith, length-take n xs)) in
    cc

pub digit_within : (xs : List ℕ) (k : ℕ) → is_digit (get_or xs k 0) ≡ true → k < length xs
digit_within xs k e = ⊎_elim (λ l. l) (λ g. absurd (false≢true (sym (ap is_digit (get_or_past xs k 0 g)) ∙ e))) (cases_lt k (length xs))

-- one more digit
pub before_more : (xs : List ℕ) (column : ℕ) → 1 ≤ column → DigitsBefore xs column → is_digit (get_or xs (column - 1) 0) ≡ true → DigitsBefore xs (column + 1)
before_more xs column one h e k l =
    ⊎_elim (λ p. h k p) (λ g. let q : k ≡ column - 1 = omega arith in ap (λ j. is_digit (get_or xs j 0)) q ∙ e) (cases_lt (k + 1) column)

pub bytes_small : (ds : List ℕ) → digits_only ds ≡ true → (k : ℕ) → get_or (bytes ds) k 0 < 256
bytes_small [] e k = omega arith
bytes_small (a ∷ []) e k = omega arith
bytes_small (a ∷ b ∷ ds) e zero =
    let p = and_parts (is_digit a) (is_digit b && digits_only ds) e in
    let q = and_parts (is_digit b) (digits_only ds) p.1 in
    omega (arith, value_small a p.0, value_small b q.0)
bytes_small (a ∷ b ∷ ds) e (suc k) =
    let p = and_parts (is_digit a) (is_digit b && digits_only ds) e in
    let q = and_parts (is_digit b) (digits_only ds) p.1 in
    bytes_small ds q.1 k
