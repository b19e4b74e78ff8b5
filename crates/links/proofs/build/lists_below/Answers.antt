use Rattle.std.proofs.Common.{◌≡◌, IfOk, map, length, vec_items, ap, subst, arith}
use Rattle.links.specs.Indexes.{lists, Indexes}
use Rattle.links.proofs.Builds.{indexes_push}
use Rattle.links.proofs.build.lists_below.Goals as goal

pub loop-q-init : goal.loop-q-init
loop-q-init g c = λ f tells. record { long = ap (λ v. length (map vec_items v)) c.new-all.ensures.items; each = λ q h. absurd (omega arith) }

pub loop-q-preserved : goal.loop-q-preserved
loop-q-preserved g c = λ f tells.
    let n = c.loop-q.q in
    let here : vec_items c.in_ok-list.field-0 ≡ f n = subst (λ r. IfOk r (λ w. vec_items w ≡ f n)) c.in_ok-list.was (tells n c.list.result (omega arith) c.list.ensures) in
    indexes_push n f c.loop-q.all c.push.new.self c.in_ok-list.field-0 (c.loop-q.invariant f (λ q r l k. tells q r (omega arith) k)) c.in_ok-push.ensures.items here

pub returns : goal.returns
returns g c = λ f tells.
    let e : c.loop-q.q ≡ c.args.count = omega (arith, c.loop-q-test.false, c.loop-q.auto.q-end) in
    subst (λ n. Indexes n f (lists c.loop-q.all)) e (c.loop-q.invariant f (λ q r l k. tells q r (omega arith) k))
