use Rattle.std.proofs.Common.{◌≡◌, ℕ, ◌-◌, ◌<◌, ◌≤◌, true, cond, sym, ap, ◌∙◌, subst, arith}
use Rattle.std.proofs.lemmas.List.FromFn.{get_or-map-range_with_len}
use Rattle.std.proofs.lemmas.Bool.Decides.{nat_tests}
use Rattle.textspec.specs.Hex.{is_digit, value}
use Rattle.tasktext.proofs.bytes.value.Goals as goal

-- what stands at a byte's place
abbrev noted : ℕ → ℕ
noted c = cond (is_digit c) (value c) 0

from : (c : ℕ) → is_digit c ≡ true → 48 ≤ c
from c h = grind (arith, nat_tests)

upto : (c : ℕ) → is_digit c ≡ true → c ≤ 102
upto c h = grind (arith, nat_tests)

small : (c : ℕ) → is_digit c ≡ true → value c < 16
small c h = grind (arith, nat_tests)

pub returns : goal.returns
returns c =
    let n = c.args.c in
    let low = from n c.requires in
    let high = upto n c.requires in
    let e = get_or-map-range_with_len noted 48 55 (n - 48) n 0 (omega arith) (omega arith) ∙ ap (λ b. cond b (value n) 0) c.requires in
    (e, subst (λ (v : ℕ). v < 16) (sym e) (small n c.requires))
