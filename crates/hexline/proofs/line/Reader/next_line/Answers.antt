use Rattle.std.proofs.Common.{◌≡◌, ◌+◌, ◌<◌, true, ◌∷◌, ◌++◌, length, get_or, take, refl, sym, ap, ◌∙◌, arith, length-take}
use Rattle.std.proofs.lemmas.List.{take_rest}
use Rattle.std.proofs.lemmas.Bool.{ltb-true}
use Rattle.std.proofs.lemmas.Grind.{get_or_default_zero}
use Rattle.textspec.specs.Hex.{digits_only, hex, bytes}
use Rattle.textspec.proofs.Hexes.{taken, line_there, length_bytes, bytes_small}
use Rattle.hexline.proofs.line.Reader.next_line.Goals as goal

pub invariant_of-result : goal.invariant_of-result
invariant_of-result c =
    let n = c.count_digits-count.result in
    let xs = c.args.self.now.text.now in
    let size = length-take n xs in
    record {
      hex = taken xs n (λ k h. c.count_digits-count.ensures.before k (omega arith));
      even = omega arith;
      some = omega arith;
      few = omega arith;
    }

pub returns-in-Some-eq10 : goal.returns-in-Some-eq10
returns-in-Some-eq10 c =
    let n = c.count_digits-count.result in
    let xs = c.args.self.now.text.now in
    let ds = take n xs in
    let size = length-take n xs in
    let all : digits_only ds ≡ true = taken xs n (λ k h. c.count_digits-count.ensures.before k (omega arith)) in
    let found = c.in-Some-eq10.ensures.lookup in
    let inside : n < length xs = ltb-true n (length xs) (sym found.0) in
    let end : get_or xs n 0 ≡ 10 = sym (found.1 ∙ get_or_default_zero xs n _ inside) ∙ c.in-Some-eq10.field-0-test in (
      refl,
      record {
        is = line_there xs n inside c.if-count-eq0.true all end ∙ ap (λ rest. hex (bytes ds) ++ 10 ∷ rest) (sym (take_rest xs (n + 1)));
        sized = record { some = omega (arith, length_bytes ds); few = omega (arith, length_bytes ds); small = bytes_small ds all };
      },
    )
