use Rattle.std.proofs.Common.{◌+◌, ◌*◌, length, get_or, ap, ◌∙◌, arith}
use Rattle.textspec.specs.Hex.{is_digit, value}
use Rattle.textspec.proofs.Hexes.{length_bytes, bytes_at, digit_at}
use Rattle.tasktext.proofs.bytes.byte.Goals as goal

pub overflow_mul-i : goal.overflow_mul-i
overflow_mul-i c = omega (arith, length_bytes c.args.line.now.digits.now)

pub bounds-digits-i : goal.bounds-digits-i
bounds-digits-i c = omega (arith, length_bytes c.args.line.now.digits.now, ap length c.digits-digits.ensures)

pub value-requires : goal.value-requires
value-requires c =
    ap (λ ds. is_digit (get_or ds (2 * c.args.i) 0)) c.digits-digits.ensures
    ∙ digit_at c.args.line.now.digits.now (2 * c.args.i) c.args.line.now.hex (omega (arith, length_bytes c.args.line.now.digits.now))

pub overflow_mul-i-2 : goal.overflow_mul-i-2
overflow_mul-i-2 c = omega (arith, length_bytes c.args.line.now.digits.now)

pub overflow_add-i : goal.overflow_add-i
overflow_add-i c = omega (arith, length_bytes c.args.line.now.digits.now)

pub bounds-digits-i-2 : goal.bounds-digits-i-2
bounds-digits-i-2 c = omega (arith, length_bytes c.args.line.now.digits.now, ap length c.digits-digits.ensures)

pub value-requires-2 : goal.value-requires-2
value-requires-2 c =
    ap (λ ds. is_digit (get_or ds (2 * c.args.i + 1) 0)) c.digits-digits.ensures
    ∙ digit_at c.args.line.now.digits.now (2 * c.args.i + 1) c.args.line.now.hex (omega (arith, length_bytes c.args.line.now.digits.now))

pub returns : goal.returns
returns c =
    let i = c.args.i in
    let h = bytes_at c.args.line.now.digits.now i c.requires in
    let a = ap (λ ds. value (get_or ds (2 * i) 0)) c.digits-digits.ensures in
    let b = ap (λ ds. value (get_or ds (2 * i + 1) 0)) c.digits-digits.ensures in
    omega arith
