use Rattle.std.proofs.Common.{◌≡◌, [], ◌∷◌, ◌++◌, set, None, vec_items, sym, refl, subst, arith}
use Rattle.queue.specs.Queues.{count, Removes, Drained}
use Rattle.queue.proofs.Tables.{count_taken, count_within}
use Rattle.queue.proofs.Drains.{Ahead, removes_more, ahead_more, ahead_ascends, drained}
use Rattle.queue.proofs.drain.take_all.Goals as goal

pub loop-pair-init : goal.loop-pair-init
loop-pair-init g c =
    let t = g.Q.Queue.pairs c.args.queue.now in
    let leq = g.Q.Key.Key.leq in
    let l = vec_items c.args.all.now in
    let none : [] ≡ l = sym c.requires.empty.0 in (
      λ s. s,
      subst (λ v. Removes t v t) none refl,
      λ s. subst (λ v. Ahead leq v t) none tt,
      omega (arith, c.requires.empty.1, c.requires.room, count_within t),
    )

pub push_reserved-requires : goal.push_reserved-requires
push_reserved-requires g c =
    let p = c.in-Some.pair in
    let took = c.in-Some.ensures.after in
    omega (arith, c.loop-pair.invariant.3, count_taken (g.Q.Queue.pairs c.loop-pair.queue) p.0 p.1 took.1)

-- one pair fewer is held after a take
fewer : goal.loop-pair-smaller
fewer g c =
    let p = c.in-Some.pair in
    let took = c.in-Some.ensures.after in
    let u = g.Q.Queue.pairs c.loop-pair.queue in
    let w = g.Q.Queue.pairs c.take.new.self in
    let e : count w ≡ count (set u p.0 None) = subst (λ v. count w ≡ count v) took.2 refl in
    omega (arith, count_taken u p.0 p.1 took.1, e)

pub loop-pair-smaller : goal.loop-pair-smaller
loop-pair-smaller g c = fewer g c

pub loop-pair-preserved : goal.loop-pair-preserved
loop-pair-preserved g c =
    let p = c.in-Some.pair in
    let took = c.in-Some.ensures in
    let u = g.Q.Queue.pairs c.loop-pair.queue in
    let w = g.Q.Queue.pairs c.take.new.self in
    let t = g.Q.Queue.pairs c.args.queue.now in
    let leq = g.Q.Key.Key.leq in
    let l = vec_items c.loop-pair.all in
    let m = vec_items c.push_reserved.new.self in
    let inv = c.loop-pair.invariant in
    let push = c.push_reserved.ensures in
    let items : l ++ p ∷ [] ≡ m = sym push.items in
    let left : set u p.0 None ≡ w = sym took.after.2 in (
      λ s. took.keeps (inv.0 s),
      subst (λ v. Removes t v w) items (subst (Removes t (l ++ p ∷ [])) left (removes_more t l u p inv.1 took.after.1)),
      λ s. subst (λ v. Ahead leq v w) items (subst (Ahead leq (l ++ p ∷ [])) left (ahead_more leq l u p (inv.2 s) took.after.1 (took.least (inv.0 s)))),
      omega (arith, inv.3, push.len, push.capacity, fewer g c),
    )

pub returns : goal.returns
returns g c =
    let took = c.in_default.ensures in
    let inv = c.loop-pair.invariant in
    let t = g.Q.Queue.pairs c.args.queue.now in
    let u = g.Q.Queue.pairs c.loop-pair.queue in
    let l = vec_items c.loop-pair.all in
    record {
      keeps = λ s. took.keeps (inv.0 s);
      after = subst (Drained t l) (sym took.after.1) (drained t l u inv.1 took.after.0);
      order = λ s. ahead_ascends g.Q.Key.Key.leq l u (inv.2 s);
    }
