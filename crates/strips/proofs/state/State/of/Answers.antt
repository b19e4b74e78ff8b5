use Rattle.std.proofs.Common.{◌+◌, ◌||◌, eqb, get_or, drop, sym, ap, ◌∙◌, arith}
use mathlib.Core.Path.{fun_ext}
use Rattle.std.proofs.lemmas.List.{at_drop_more, at_drop_all}
use Rattle.model.specs.Strips.{names}
use Rattle.strips.specs.Standing.{standing}
use Rattle.std.proofs.Math.Bool.{or-false}
use Rattle.strips.proofs.Naming.{or_move}
use Rattle.strips.proofs.state.State.of.Goals as goal

pub loop-fact-init : goal.loop-fact-init
loop-fact-init c = λ g. ap (λ b. names c.args.list.now g || b) (ap (λ s. s g) c.new-state.ensures) ∙ or-false (names c.args.list.now g)

pub loop-fact-preserved : goal.loop-fact-preserved
loop-fact-preserved c =
    let xs = c.args.list.now in let i = c.loop-fact.fact-index in
    λ g.
    let s = standing c.loop-fact.state g in
    ap (λ b. names (drop (i + 1) xs) g || b) (ap (λ s. s g) c.insert.ensures.after)
    ∙ or_move (eqb (get_or xs i 0) g) (names (drop (i + 1) xs) g) s
    ∙ ap (λ b. b || s) (sym (at_drop_more (λ l. names l g) xs i 0 (omega arith)))
    ∙ c.loop-fact.invariant g

pub returns : goal.returns
returns c =
    fun_ext (λ g. sym (ap (λ b. b || standing c.loop-fact.state g) (at_drop_all (λ l. names l g) c.args.list.now c.loop-fact.fact-index (omega arith))) ∙ c.loop-fact.invariant g)
