use Rattle.std.proofs.Common.{◌≡◌, ◌<◌, ◌⊎◌, length, get_or, set, sym, ap, ◌∙◌, subst, arith, length-set, get_or-set_other}
use Rattle.strips.specs.Standing.{standing}
use Rattle.rows.specs.Rows.{blank, bare}
use Rattle.rows.specs.Lookups.{Numbers, Leaf, linked, Written}
use Rattle.rows.proofs.Ways.{read, hung_written}
use Rattle.rows.proofs.lookup.hang.Goals as goal

pub returns : goal.returns
returns c =
    let rows = c.args.rows.now in
    let under = c.args.under in
    let used = c.args.number in
    let row = c.args.row in
    let mid = set rows used (bare row) in
    let x = c.index-rows-under.result in
    let f = c.branch-fact.result in
    let nums : Numbers rows under used = record { earlier = omega (arith, c.if-under-number.false); within = omega (arith, c.if-number-rows.false); small = omega (arith, c.if-number-gt65535.false) } in
    let inside : under < length mid = simp length-set (omega (arith, c.if-under-number.false, c.if-number-rows.false)) in
    let is : x ≡ get_or rows under blank = read mid under x inside c.index-rows-under.is ∙ get_or-set_other rows used under (bare row) blank (λ e. omega (arith, c.if-under-number.false)) in
    record {
      fitting = λ _. subst (Written rows under used row) (ap (λ w. set mid under w) (sym (c.link_to.ensures ∙ ap (λ w. linked w (standing row.state) f used) is))) (hung_written rows under used row f nums (subst (λ w. (f ≡ w.fact) ⊎ Leaf w) is c.branch-fact.ensures));
      unfit = λ no. absurd (no nums);
    }
