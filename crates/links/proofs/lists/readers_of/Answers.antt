use Rattle.std.proofs.Common.{◌≡◌, ℕ, ◌-◌, List, IfOk, vec_items, sym, ap, ◌∙◌, subst, arith, rules}
use Rattle.std.proofs.lemmas.List.{get_or_past}
use Rattle.std.proofs.lemmas.Bool.{cond-true, cond-false, lt-ltb, le-ltb}
use Rattle.model.specs.Strips.{action, no_action}
use Rattle.strips.specs.Tasks.{problem}
use Rattle.strips.specs.Actions.{action_of}
use Rattle.session_theory.specs.Readers.{needing_items, readers}
use Rattle.session_theory.proofs.Sides.{nth_some, nth_none}
use Rattle.links.proofs.Builds.{needers_picked}
use Rattle.links.proofs.lists.readers_of.Goals as goal

pub returns-then-item-facts : goal.returns-then-item-facts
returns-then-item-facts c =
    let p = problem c.args.task.now in
    let q = c.args.item in
    let e : readers p q ≡ needing_items q p.facts p.actions = cond-true _ _ _ (lt-ltb q p.facts (omega (arith, c.if-item-facts.true, c.from-facts.ensures, c.facts.ensures.is))) in
    subst (λ (l : List ℕ). IfOk c.items_where.result (λ v. vec_items v ≡ l)) (sym e)
    (needers_picked p q c.items_where.result (λ act b k. search rules) c.items_where.ensures)

pub returns-in-Some : goal.returns-in-Some
returns-in-Some c =
    let p = problem c.args.task.now in
    let q = c.args.item in
    let less : q - c.from-facts.result ≡ q - p.facts = ap (λ n. q - n) (c.from-facts.ensures ∙ c.facts.ensures.is) in
    let e : readers p q ≡ (action p (q - p.facts)).add = cond-false _ _ _ (le-ltb q p.facts (omega (arith, c.if-item-facts.false, c.from-facts.ensures, c.facts.ensures.is))) in
    let a = (nth_some p.actions (q - c.from-facts.result) (action_of c.in-Some.act.now) no_action c.in-Some.ensures).1 in
    let same : c.adds.result.now ≡ readers p q = c.adds.ensures ∙ ap (λ z. z.add) (sym a) ∙ ap (λ n. (action p n).add) less ∙ sym e in
    subst (λ (l : List ℕ). IfOk c.collect.result (λ v. vec_items v ≡ l)) same (search rules)

pub returns-in-None : goal.returns-in-None
returns-in-None c =
    let p = problem c.args.task.now in
    let q = c.args.item in
    let less : q - c.from-facts.result ≡ q - p.facts = ap (λ n. q - n) (c.from-facts.ensures ∙ c.facts.ensures.is) in
    let e : readers p q ≡ (action p (q - p.facts)).add = cond-false _ _ _ (le-ltb q p.facts (omega (arith, c.if-item-facts.false, c.from-facts.ensures, c.facts.ensures.is))) in
    c.new.ensures.items ∙ sym (e ∙ ap (λ n. (action p n).add) (sym less) ∙ ap (λ z. z.add) (get_or_past p.actions (q - c.from-facts.result) no_action (nth_none p.actions (q - c.from-facts.result) c.in-None.ensures)))
