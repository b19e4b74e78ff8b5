use Rattle.std.proofs.Common.{◌+◌, true, false, sym, ap, ◌∙◌, arith}
use Rattle.model.specs.Strips.{names}
use Rattle.model.specs.Figures.{table}
use Rattle.strips.specs.Actions.{action_of}
use Rattle.strips.specs.Tasks.{problem}
use Rattle.solve.proofs.Items.{contained, nth_within, adder_some, adder_none}
use Rattle.solve.proofs.side.adder_figure.Goals as goal

pub overflow_add-from : goal.overflow_add-from
overflow_add-from c =
    let few = c.facts.ensures.lawful.actions_few in
    omega (arith, few, c.from.ensures, c.facts.type_inv, nth_within (problem c.args.task.now).actions c.args.number (action_of c.in-Some.action.now) c.in-Some.ensures)

pub returns-then-contains : goal.returns-then-contains
returns-then-contains c =
    let p = problem c.args.task.now in let k = c.args.number in let f = c.args.fact in
    let x = table c.args.figures.now in let a = action_of c.in-Some.action.now in
    let on = sym c.if-contains.true ∙ contained c.adds.result.now f c.contains.result c.contains.ensures.cases ∙ ap (λ l. names l f) c.adds.ensures in
    c.figure_at.ensures.ranked ∙ ap (λ n. x (n + k)) (c.from.ensures ∙ c.facts.ensures.is) ∙ adder_some p k a f x true c.in-Some.ensures on

pub returns-else-contains : goal.returns-else-contains
returns-else-contains c =
    let p = problem c.args.task.now in let k = c.args.number in let f = c.args.fact in
    let x = table c.args.figures.now in let a = action_of c.in-Some.action.now in
    let off = sym c.if-contains.false ∙ contained c.adds.result.now f c.contains.result c.contains.ensures.cases ∙ ap (λ l. names l f) c.adds.ensures in
    adder_some p k a f x false c.in-Some.ensures off

pub returns-in_default : goal.returns-in_default
returns-in_default c =
    adder_none (problem c.args.task.now) c.args.number c.args.fact (table c.args.figures.now) c.in_default.ensures
