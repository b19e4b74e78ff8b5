use Rattle.std.proofs.Common.{◌≡◌, ap, subst, arith}
use Rattle.model.specs.Figures.{max_rule}
use Rattle.strips.specs.Standing.{standing}
use Rattle.session_estimator.specs.Estimating.{Followed, Aligned}
use Rattle.session_estimator.proofs.Follows.{followed_none, followed_more}
use Rattle.session_estimator.proofs.following.follow.Goals as goal

pub loop-fact-init : goal.loop-fact-init
loop-fact-init g c = followed_none (λ _. max_rule) g.Q.Queue.sound g.Q.Queue.pairs c.args.session.now (standing c.args.state.now)

pub align-requires : goal.align-requires
align-requires g c =
    let e = ap (λ b. b.task.facts) c.loop-fact.invariant.leads.base in
    let h = ap (λ t. t.facts) c.task.ensures in
    omega (arith, c.facts-facts.ensures.is, c.loop-fact-test.true)

pub loop-fact-preserved : goal.loop-fact-preserved
loop-fact-preserved g c =
    let u = standing c.args.state.now in
    followed_more (λ _. max_rule) g.Q.Queue.sound g.Q.Queue.pairs c.args.session.now c.loop-fact.session c.align.new.session c.loop-fact.fact u c.loop-fact.invariant
    (subst (λ b. Aligned (λ _. max_rule) g.Q.Queue.sound g.Q.Queue.pairs c.loop-fact.session c.align.new.session c.loop-fact.fact b) c.stands.ensures c.align.ensures)

pub returns : goal.returns
returns g c =
    let h = ap (λ t. t.facts) c.task.ensures in
    let e : c.loop-fact.fact ≡ c.args.session.now.base.task.facts = omega (arith, c.facts-facts.ensures.is, c.loop-fact-test.false, c.loop-fact.auto.fact-end) in
    subst (λ n. Followed (λ _. max_rule) g.Q.Queue.sound g.Q.Queue.pairs c.args.session.now c.loop-fact.session n (standing c.args.state.now)) e c.loop-fact.invariant
