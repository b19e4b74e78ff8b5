use Rattle.std.proofs.Common.{◌≡◌, Some, None, sym, ap, ◌∙◌, arith}
use Rattle.std.proofs.lemmas.Bool.Decides.{not_from_Decides}
use Rattle.strips.specs.Standing.{standing}
use Rattle.rows.specs.Rows.{blank}
use Rattle.rows.specs.Lookups.{here, Has, next, link, state_at}
use Rattle.rows.proofs.Ways.{snoc, next_later, missing}
use Rattle.rows.proofs.lookup.find.Goals as goal

pub loop-row-init : goal.loop-row-init
loop-row-init c used t = (t.some, here 0)

pub returns-then-eq : goal.returns-then-eq
returns-then-eq c used t =
    let e = c.in-Some.ensures.lookup.4 (omega arith) blank in
    let h : Has c.args.rows.now used (standing c.args.state.now) c.loop-row.at =
    record { within = (c.loop-row.invariant used t).0; is = ap (λ w. standing w.state) (sym e) ∙ c.eq.ensures.same.0 c.if-eq.true } in
    h

pub loop-row-preserved : goal.loop-row-preserved
loop-row-preserved c used t =
    let rows = c.args.rows.now in
    let i = c.loop-row.at in
    let s = standing c.args.state.now in
    let inv = c.loop-row.invariant used t in
    let e = c.in-Some.ensures.lookup.4 (omega arith) blank in
    let to : next rows s i ≡ Some c.in-Some-next.next = ap (λ w. link w s) (sym e) ∙ sym c.next.ensures ∙ c.in-Some-next.is in
    let other : state_at rows i ≡ s → ⊥ = λ q. not_from_Decides _ c.eq.ensures.same c.if-eq.false (ap (λ w. standing w.state) e ∙ q) in
    ((next_later rows used t s i c.in-Some-next.next inv.0 to).1, snoc inv.1 other to)

pub returns-in_default-next : goal.returns-in_default-next
returns-in_default-next c used t =
    let rows = c.args.rows.now in
    let i = c.loop-row.at in
    let s = standing c.args.state.now in
    let e = c.in-Some.ensures.lookup.4 (omega arith) blank in
    let to : next rows s i ≡ Some c.in-Some-next.next = ap (λ w. link w s) (sym e) ∙ sym c.next.ensures ∙ c.in-Some-next.is in
    absurd (omega (arith, c.if-at-next.false, (next_later rows used t s i c.in-Some-next.next (c.loop-row.invariant used t).0 to).0))

pub returns-in_default-next-2 : goal.returns-in_default-next-2
returns-in_default-next-2 c used t =
    let rows = c.args.rows.now in
    let i = c.loop-row.at in
    let s = standing c.args.state.now in
    let inv = c.loop-row.invariant used t in
    let e = c.in-Some.ensures.lookup.4 (omega arith) blank in
    let free : next rows s i ≡ None = ap (λ w. link w s) (sym e) ∙ sym c.next.ensures ∙ c.in_default-next.is in
    let other : state_at rows i ≡ s → ⊥ = λ q. not_from_Decides _ c.eq.ensures.same c.if-eq.false (ap (λ w. standing w.state) e ∙ q) in
    missing rows used t s i inv.0 inv.1 other free

pub returns-in_default : goal.returns-in_default
returns-in_default c used t = absurd (omega (arith, (c.loop-row.invariant used t).0, t.fits, c.in_default.ensures.lookup.3))
