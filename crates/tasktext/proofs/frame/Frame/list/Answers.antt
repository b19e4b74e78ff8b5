use Rattle.std.proofs.Common.{◌≡◌, ◌+◌, ◌-◌, ◌<◌, [], ◌∷◌, ◌++◌, length, get_or, take, drop, sym, ap, ◌∙◌, arith, length-drop, get_or-drop, get_or-take}
use Rattle.std.proofs.lemmas.List.{take_more, length-take-le}
use Rattle.hexline.specs.Lines.{bytes_of}
use Rattle.strips.specs.Lists.{listed, Above}
use Rattle.textspec.proofs.Hexes.{length_bytes}
use Rattle.tasktext.proofs.Pushes.{joins}
use Rattle.tasktext.proofs.frame.Frame.list.Goals as goal

pub overflow_add-from : goal.overflow_add-from
overflow_add-from g c = omega (arith, c.args.self.now.line.few, length_bytes c.args.self.now.line.digits.now)

pub loop-i-preserved : goal.loop-i-preserved
loop-i-preserved g c =
    let b = bytes_of c.args.self.now.line in
    let i = c.loop-i.i in
    let from = c.args.from in
    let xs = drop from b in
    let old = listed c.loop-i.list in
    let l : i < length xs = omega (arith, length-drop from b) in
    let size : length old ≡ i = ap length c.loop-i.invariant ∙ length-take-le i xs (omega arith) in
    let here : c.byte.result ≡ get_or xs i 0 = c.byte.ensures ∙ sym (get_or-drop from b i 0) in
    let above : Above old c.byte.result =
    λ p.
    let q : get_or old (length old - 1) 0 ≡ get_or b (from + (i - 1)) 0 =
    ap (λ ys. get_or ys (length old - 1) 0) c.loop-i.invariant ∙ ap (λ k. get_or (take i xs) (k - 1) 0) size
    ∙ get_or-take i xs (i - 1) 0 (omega arith) ∙ get_or-drop from b (i - 1) 0 in
    let r = c.requires.rising (i - 1) (omega arith) in
    let s : from + (i - 1) + 1 ≡ from + i = omega arith in
    let t : get_or b (from + (i - 1) + 1) 0 ≡ get_or b (from + i) 0 = ap (λ k. get_or b k 0) s in
    omega (arith, c.byte.ensures) in
    joins _ old c.byte.result _ c.push.result (omega arith) above c.push.ensures
    ∙ ap (λ ys. ys ++ c.byte.result ∷ []) c.loop-i.invariant
    ∙ ap (λ x. take i xs ++ x ∷ []) here ∙ sym (take_more xs i 0 l)
