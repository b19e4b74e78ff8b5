use Rattle.std.proofs.Common.{◌≡◌, ℕ, cond, not, eqb, ap, ◌∙◌, arith}
use Rattle.std.proofs.lemmas.List.FromFn.{get_or-map-range_with_len}
use Rattle.std.proofs.lemmas.Bool.Decides.{nat_tests}
use Rattle.textspec.specs.Hex.{is_digit}
use Rattle.hexline.proofs.digits.is_digit.Goals as goal

-- what stands at a byte's place
abbrev marked : ℕ → ℕ
marked c = cond (is_digit c) c 46

tells_digits : (c : ℕ) → not (eqb (marked c) 46) ≡ is_digit c
tells_digits c = grind (arith, nat_tests)

pub returns : goal.returns
returns c =
    let n = c.args.c in
    ap (λ x. not (eqb x 46)) (get_or-map-range_with_len marked 0 256 n n 0 (omega arith) (omega arith)) ∙ tells_digits n
