use Rattle.std.proofs.Common.{◌≡◌, Err, arith, rules, sym, subst}
use Rattle.strips.specs.Lists.{listed, Taken}
use Rattle.strips.proofs.Taking.{all_taken, refused}
use Rattle.strips.proofs.list.FactListTryFromRefSliceU8.try_from.Goals as goal

pub returns-in_err-push : goal.returns-in_err-push
returns-in_err-push g c =
    let e : c.from_residual.result ≡ Err c.in_err-push.field-0.0 = search rules in
    subst (λ r. Taken c.args.facts.now r) (sym e) (refused c.loop-fact.list c.args.facts.now (listed c.push.new.self) c.loop-fact.fact-index c.in_err-push.field-0.0 (omega arith) c.loop-fact.invariant c.in_err-push.ensures)

pub returns : goal.returns
returns g c = all_taken c.loop-fact.list c.args.facts.now c.loop-fact.fact-index (omega arith) c.loop-fact.invariant
