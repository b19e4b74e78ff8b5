-- Bits of numbers, place by place. Assumes nothing.
use Rattle.std.proofs.Common.{◌≡◌, ℕ, zero, suc, ◌-◌, ◌*◌, ◌/◌, ◌%◌, ◌^◌, ◌<◌, min, max, false, not, ◌&&◌, ◌||◌, eqb, bit_and, bit_or, sym, ap, ◌∙◌, mod-lt, pow-suc, div-one, one-add, arith}
use Rattle.std.proofs.lemmas.Nat.{shr-shr, pow_pos}
use native.Mathlib.Decide.{ℕ_discrete}
use Rattle.std.proofs.lemmas.Nat.Bits.{bit_at_or, bit_at_and, bit_at-pow_same, bit_at-pow_other, bit_at-zero, bit_at-lt, same_from_bits_below}
use Rattle.std.proofs.lemmas.Bool.{eq-eqb, ne_eqb}
use Rattle.std.proofs.lemmas.Bool.Decides.{nat_tests}
use Rattle.strips.specs.Standing.{bit}

pub or_bit : (a b k : ℕ) → bit (bit_or a b) k ≡ (bit a k || bit b k)
or_bit a b k = ap (λ n. eqb n 1) (bit_at_or a b k) ∙ one _ _ (bit_at-lt a k) (bit_at-lt b k)
  where
    one : (x y : ℕ) → x < 2 → y < 2 → eqb (max x y) 1 ≡ (eqb x 1 || eqb y 1)
    one x y h l = grind (arith, nat_tests)

pub and_bit : (a b k : ℕ) → bit (bit_and a b) k ≡ (bit a k && bit b k)
and_bit a b k = ap (λ n. eqb n 1) (bit_at_and a b k) ∙ one _ _ (bit_at-lt a k) (bit_at-lt b k)
  where
    one : (x y : ℕ) → x < 2 → y < 2 → eqb (min x y) 1 ≡ (eqb x 1 && eqb y 1)
    one x y h l = grind (arith, nat_tests)

bit_zero : (x : ℕ) → bit x 0 ≡ eqb (x % 2) 1
bit_zero x = ap (λ n. eqb (n % 2) 1) (div-one x)

bit_suc : (x k : ℕ) → bit x (suc k) ≡ bit (x / 2) k
bit_suc x k = ap (λ n. eqb (n % 2) 1) (ap (λ j. x / 2 ^ j) (sym (one-add k)) ∙ sym (shr-shr x 1 k))

-- the complement in n bits
pub not_bit : (n x k : ℕ) → k < n → x < 2 ^ n → bit (2 ^ n - 1 - x) k ≡ not (bit x k)
not_bit zero x k h l = absurd (omega arith)
not_bit (suc n) x zero h l =
    let t : 2 ^ suc n ≡ 2 ^ n * 2 = pow-suc 2 n in
    let z = pow_pos n in
    let p : (2 ^ suc n - 1 - x) % 2 ≡ 1 - x % 2 = omega arith in
    bit_zero (2 ^ suc n - 1 - x) ∙ ap (λ y. eqb y 1) p ∙ one (x % 2) (mod-lt x (omega arith)) ∙ ap not (sym (bit_zero x))
  where
    one : (x : ℕ) → x < 2 → eqb (1 - x) 1 ≡ not (eqb x 1)
    one x h = grind (arith, nat_tests)
not_bit (suc n) x (suc k) h l =
    let t : 2 ^ suc n ≡ 2 ^ n * 2 = pow-suc 2 n in
    let z = pow_pos n in
    let q : (2 ^ suc n - 1 - x) / 2 ≡ 2 ^ n - 1 - x / 2 = omega arith in
    bit_suc (2 ^ suc n - 1 - x) k ∙ ap (λ y. bit y k) q ∙ not_bit n (x / 2) k (omega arith) (omega arith) ∙ ap not (sym (bit_suc x k))

-- a power of two has one bit
pub one_bit : (k j : ℕ) → bit (2 ^ k) j ≡ eqb k j
one_bit k j =
    elim (ℕ_discrete j k) [
      | yes e ↦ ap (λ i. bit (2 ^ k) i) e ∙ ap (λ n. eqb n 1) (bit_at-pow_same k) ∙ sym (eq-eqb k j (sym e))
      | no n ↦ ap (λ x. eqb x 1) (bit_at-pow_other k j n) ∙ sym (ne_eqb k j (λ e. n (sym e)))
    ]

pub no_bit : (k : ℕ) → bit 0 k ≡ false
no_bit k = ap (λ n. eqb n 1) (bit_at-zero k)

-- numbers with the same bits are equal
pub bits_same : (n a b : ℕ) → a < 2 ^ n → b < 2 ^ n → ((k : ℕ) → k < n → bit a k ≡ bit b k) → a ≡ b
bits_same n a b h l e = same_from_bits_below n a b h l (λ k lt. one _ _ (bit_at-lt a k) (bit_at-lt b k) (e k lt))
  where
    one : (x y : ℕ) → x < 2 → y < 2 → eqb x 1 ≡ eqb y 1 → x ≡ y
    one x y h l e = grind (arith, nat_tests)
