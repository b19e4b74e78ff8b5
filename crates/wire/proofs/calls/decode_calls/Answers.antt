use Rattle.std.proofs.Common.{◌≡◌, ℕ, ◌<◌, Bool, false, List, length, map, vec_items, sym, ap, ◌∙◌, subst, arith}
use Rattle.std.specs.Prelude.{◌==◌}
use Rattle.std.proofs.lemmas.List.{map_push}
use Rattle.session.specs.Works.{call_of}
use Rattle.wire.proofs.Reading.{Read, read_more, read_stuck}
use Rattle.wire.proofs.calls.decode_calls.Goals as goal

nonempty : (rest : List ℕ) (b : Bool) → b ≡ (length rest == 0) → b ≡ false → 0 < length rest
nonempty rest b e f = grind arith

pub returns-in_default : goal.returns-in_default
returns-in_default c =
    read_stuck c.args.bytes.now (map call_of (vec_items c.loop-rest.calls)) c.loop-rest.rest.now (nonempty _ _ c.is_empty.ensures c.loop-rest-test.true) c.in_default.ensures c.loop-rest.invariant

pub loop-rest-preserved : goal.loop-rest-preserved
loop-rest-preserved c =
    let call = call_of c.in-Some.call in
    let rest = c.in-Some.behind.now in
    subst (λ cs. Read c.args.bytes.now cs rest) (sym (ap (map call_of) c.in_ok-push.ensures.items ∙ map_push call_of (vec_items c.loop-rest.calls) c.in-Some.call))
    (read_more c.args.bytes.now (map call_of (vec_items c.loop-rest.calls)) c.loop-rest.rest.now call rest c.loop-rest.invariant c.in-Some.ensures)
