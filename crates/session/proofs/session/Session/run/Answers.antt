use Rattle.std.proofs.Common.{◌≡◌, ◌+◌, ◌*◌, List, length, get_or, take, drop, vec_items, sym, refl, ap, ◌∙◌, subst, arith}
use Rattle.std.proofs.lemmas.List.{take_more, take_all, drop_more}
use Rattle.model.specs.Strips.{items}
use Rattle.strips.specs.Tasks.{problem}
use Rattle.settling.specs.declared.base.Base.{Base}
use Rattle.session.specs.declared.call.Call.{Call as CallValue}
use Rattle.session.specs.declared.call.Call.TheVariants.{Enter}
use Rattle.session.specs.Sessions.{task_of}
use Rattle.session.specs.Rooms.{weight, settles, Stocked}
use Rattle.session.specs.Works.{Working}
use Rattle.session.proofs.Working.{working_none, working_more}
use Rattle.session.proofs.session.Session.run.Goals as goal

pub loop-call-init : goal.loop-call-init
loop-call-init g c =
    let a = c.args.room.answers in
    (omega (arith, ap length c.requires.none_yet, a.ok.0), c.requires.places, refl, (λ sd. sd), c.requires.stocked, working_none g.R.CostRule.rule g.Q.Queue.sound g.Q.Queue.pairs c.args.self.now (vec_items a) c.requires.none_yet)

pub loop-call-preserved : goal.loop-call-preserved
loop-call-preserved g c =
    let s = c.args.self.now in
    let u = c.loop-call.self in
    let t = c.ask-one.new.self in
    let inv = c.loop-call.invariant in
    let e = c.ask-one.ensures in
    let i = c.loop-call.call-index in
    let calls = c.args.calls.now in
    let k = get_or calls i (Enter 0) in
    let rest = drop (i + 1) calls in
    let ds = vec_items c.loop-call.dockets in
    let es = vec_items c.ask-one.new.dockets in
    let cut : settles (drop i calls) ≡ weight k + settles rest = ap settles (drop_more calls i (Enter 0) c.loop-call-test.true) in
    let st : Stocked (weight k + settles rest) (2 * items (task_of u)) ds =
    subst (λ (b : Base g.row.R.Denot). Stocked (weight k + settles rest) (2 * items (problem b.task)) ds) (sym inv.2) (subst (λ m. Stocked m (2 * items (task_of s)) ds) cut inv.4) in
    let r = e.law (settles rest) st in (
      omega (arith, inv.0, c.push_reserved.ensures.len),
      omega (arith, inv.1, c.push_reserved.ensures.capacity),
      e.base ∙ inv.2,
      (λ sd. e.keeps (inv.3 sd)),
      subst (λ (b : Base g.row.R.Denot). Stocked (settles rest) (2 * items (problem b.task)) es) inv.2 r.1,
      working_more g.R.CostRule.rule g.Q.Queue.sound g.Q.Queue.pairs s u t (take i calls) (take (i + 1) calls) (vec_items c.loop-call.answers) (vec_items c.push_reserved.new.self) k c.ask-one.result inv.2 (take_more calls i (Enter 0) c.loop-call-test.true) c.push_reserved.ensures.items inv.5 r.0,
    )

pub returns : goal.returns
returns g c =
    let s = c.args.self.now in
    let inv = c.loop-call.invariant in
    record {
      base = inv.2;
      keeps = inv.3;
      law = subst (λ (l : List CallValue). Working g.R.CostRule.rule g.Q.Queue.sound g.Q.Queue.pairs s l (vec_items c.loop-call.answers) c.loop-call.self) (take_all c.loop-call.call-index c.args.calls.now c.loop-call-test.false) inv.5;
    }
