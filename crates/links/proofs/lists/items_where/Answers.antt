use Rattle.std.proofs.Common.{◌≡◌, ◌+◌, ◌<◌, ◌≤◌, true, false, [], ◌∷◌, ◌++◌, length, drop, vec_items, sym, ap, ◌∙◌, refl, arith}
use Rattle.std.proofs.lemmas.List.{append-nil, append_assoc, drop_all}
use Rattle.std.proofs.lemmas.Fn.{says_at}
use Rattle.model.specs.Strips.{no_action}
use Rattle.strips.specs.Actions.{action_of}
use Rattle.strips.specs.Tasks.{problem}
use Rattle.links.specs.Indexes.{picked}
use Rattle.session_theory.proofs.Sides.{nth_some, nth_none}
use Rattle.links.proofs.Builds.{picked_more}
use Rattle.links.proofs.lists.items_where.Goals as goal
use Rattle.links.proofs.lists.items_where.Goals.{in-Some+then-passes+in_ok-push, in-Some+else-passes, in_default}

pub loop-k-init : goal.loop-k-init
loop-k-init g c = λ test same.
    let p = problem c.args.task.now in
    let z : p.facts + 0 ≡ p.facts = omega arith in
    ap (λ v. v ++ picked test (p.facts + 0) p.actions) c.new-all.ensures.items ∙ ap (λ j. picked test j p.actions) z

pub loop-k-preserved : goal.loop-k-preserved
loop-k-preserved g c = λ test same.
    let p = problem c.args.task.now in
    let acts = p.actions in
    let k = c.loop-k.k in
    let within : k < length acts = omega (arith, c.loop-k-test.true, c.action_count-k-end.ensures.is) in
    let rest = picked test (p.facts + (k + 1)) (drop (k + 1) acts) in
    let all = vec_items c.loop-k.all in
    let item : c.from-facts.result + k ≡ p.facts + k = ap (λ n. n + k) (c.from-facts.ensures ∙ c.facts.ensures.is) in
    elim c.match-action.branch [
      | in-Some+then-passes+in_ok-push w ↦
          let found = (nth_some acts k (action_of w.in-Some.act.now) no_action w.in-Some.ensures).1 in
          let told : w.passes.result ≡ test (action_of w.in-Some.act.now) = same w.in-Some.act.now w.passes.result (says_at g.P.Fn w.passes.ensures refl) in
          ap (λ v. vec_items v ++ rest) w.all-is ∙ ap (λ v. v ++ rest) w.in_ok-push.ensures.items
          ∙ ap (λ i. (all ++ (i ∷ [])) ++ rest) item
          ∙ append_assoc all ((p.facts + k) ∷ []) rest
          ∙ ap (λ v. all ++ v) (sym (picked_more test p.facts k acts true within (ap test found ∙ sym told ∙ w.if-passes.true)))
          ∙ c.loop-k.invariant test same
      | in-Some+else-passes w ↦
          let found = (nth_some acts k (action_of w.in-Some.act.now) no_action w.in-Some.ensures).1 in
          let told : w.passes.result ≡ test (action_of w.in-Some.act.now) = same w.in-Some.act.now w.passes.result (says_at g.P.Fn w.passes.ensures refl) in
          ap (λ v. vec_items v ++ rest) w.all-is
          ∙ ap (λ v. all ++ v) (sym (picked_more test p.facts k acts false within (ap test found ∙ sym told ∙ w.if-passes.false)))
          ∙ c.loop-k.invariant test same
      | in_default w ↦ absurd (omega (arith, within, nth_none acts k w.in_default.ensures))
    ]

pub returns : goal.returns
returns g c = λ test same.
    let p = problem c.args.task.now in
    let k = c.loop-k.k in
    let past : length p.actions ≤ k = omega (arith, c.loop-k-test.false, c.action_count-k-end.ensures.is) in
    sym (append-nil (vec_items c.loop-k.all)) ∙ ap (λ l. vec_items c.loop-k.all ++ picked test (p.facts + k) l) (sym (drop_all k p.actions past)) ∙ c.loop-k.invariant test same
