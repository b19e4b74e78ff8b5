use Rattle.std.proofs.Common.{◌≡◌, ℕ, ◌<◌, Bool, true, false, cond, length, Some, None, Option, sym, refl, ap, ◌∙◌, add-one, arith, rules}
use Rattle.std.specs.Option.{option_or}
use Rattle.std.specs.Bool.{then_some}
use borrow.Author.Count.{below_more}
use Rattle.hexline.specs.Lines.{bytes_of}
use Rattle.textspec.specs.First.{first, or_else}
use Rattle.textspec.specs.Refusals.{out_of_bounds, not_rising}
use Rattle.textspec.proofs.Firsts.{first_none, first_some, first_below}
use Rattle.textspec.proofs.Refused.{refused_5, refused_6, accepted}
use Rattle.tasktext.proofs.whole.Whole.check.Goals as goal

pub returns-then-out_of_bounds : goal.returns-then-out_of_bounds
returns-then-out_of_bounds c =
    let w = c.args.self.now in
    let b = bytes_of w.line in (
      refused_5 w.due b w.kind w.size c.loop-k.k
          (first_some (out_of_bounds w.due b) (length b) c.loop-k.k (omega (arith, c.len-k-end.ensures.size)) c.loop-k.invariant.bound (sym c.if-out_of_bounds.ensures)),
      c.number-number.ensures,
    )

falls : (o : Option ℕ) (t : Bool) (k : ℕ) → option_or o (then_some t k) ≡ or_else o (cond t (Some k) None)
falls (Some x) t k = refl
falls None true k = refl
falls None false k = refl

pub loop-k-preserved : goal.loop-k-preserved
loop-k-preserved c =
    let w = c.args.self.now in
    let b = bytes_of w.line in
    let k = c.loop-k.k in
    let p = not_rising w.due b in
    record {
      bound = below_more (λ i. out_of_bounds w.due b i ≡ false) c.loop-k.k c.loop-k.invariant.bound (sym c.if-out_of_bounds.ensures);
      fall = c.or-fall.ensures ∙ ap (option_or c.loop-k.fall) (c.then_some.ensures ∙ ap (λ t. then_some t k) c.not_rising.ensures)
          ∙ falls c.loop-k.fall (p k) k ∙ ap (λ o. or_else o (cond (p k) (Some k) None)) c.loop-k.invariant.fall ∙ ap (first p) (sym (add-one k));
    }

pub overflow_cast-result-in-Some : goal.overflow_cast-result-in-Some
overflow_cast-result-in-Some c =
    let w = c.args.self.now in
    let l = first_below (not_rising w.due (bytes_of w.line)) c.loop-k.k c.in-Some.k (sym c.loop-k.invariant.fall ∙ c.in-Some.is) in
    let f = c.len-k-end.ensures.few in
    let h : c.in-Some.k < 65536 = omega arith in
    search rules

pub returns-in-Some : goal.returns-in-Some
returns-in-Some c =
    let w = c.args.self.now in
    let b = bytes_of w.line in
    let n : c.loop-k.k ≡ length b = omega (arith, c.len-k-end.ensures.size) in (
      refused_6 w.due b w.kind w.size c.in-Some.k
          (first_none (out_of_bounds w.due b) (length b) (λ i h. c.loop-k.invariant.bound i (omega arith)))
          (ap (first (not_rising w.due b)) (sym n) ∙ sym c.loop-k.invariant.fall ∙ c.in-Some.is),
      c.number-number.ensures,
    )

pub returns-in-None : goal.returns-in-None
returns-in-None c =
    let w = c.args.self.now in
    let b = bytes_of w.line in
    let n : c.loop-k.k ≡ length b = omega (arith, c.len-k-end.ensures.size) in
    accepted w.due b w.kind w.size
    (first_none (out_of_bounds w.due b) (length b) (λ i h. c.loop-k.invariant.bound i (omega arith)))
    (ap (first (not_rising w.due b)) (sym n) ∙ sym c.loop-k.invariant.fall ∙ c.in-None.is)
