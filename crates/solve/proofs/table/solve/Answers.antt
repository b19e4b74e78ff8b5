use Rattle.std.proofs.Common.{◌≡◌, length, replicate, vec_len, sym, ◌∙◌, subst}
use Rattle.std.proofs.lemmas.List.{with_items_is}
use Rattle.figure.specs.declared.figure.Figure.TheVariants.{None}
use Rattle.strips.specs.Standing.{standing}
use Rattle.strips.specs.Tasks.{problem}
use Rattle.solve.specs.Tables.{Solved}
use Rattle.solve.proofs.Falls.{nowhere_falling, one_solved}
use Rattle.solve.proofs.table.solve.Goals as goal

pub sweep_all-requires : goal.sweep_all-requires
sweep_all-requires g c =
    let all : c.deref_mut.result.now ≡ replicate c.item_count.result None =
    c.deref_mut.ensures.value ∙ c.in_ok-figures.ensures.items_if_clones_equal (λ y h. h) in
    record {
      whole = c.deref_mut.ensures.len ∙ c.in_ok-figures.ensures.len ∙ c.item_count.ensures;
      falling = nowhere_falling (g.R.CostRule.rule c.args.rule.now) (g.met.R.CostRule.lawful c.args.rule.now) (problem c.args.task.now) _ c.item_count.result c.deref_mut.result.now all;
    }

pub returns : goal.returns
returns g c =
    let rule = g.R.CostRule.rule c.args.rule.now in let p = problem c.args.task.now in let s = standing c.args.state.now in
    let v = c.in_ok-figures.figures in let ws = c.sweep_all.new.figures in
    let long : length ws ≡ vec_len v = c.sweep_all.auto.figures ∙ c.deref_mut.ensures.len in
    subst (λ l. Solved rule p s l) (sym (with_items_is v ws long))
    (one_solved rule (g.met.R.CostRule.lawful c.args.rule.now) p s ws (long ∙ c.in_ok-figures.ensures.len ∙ c.item_count.ensures) c.sweep_all.ensures)
