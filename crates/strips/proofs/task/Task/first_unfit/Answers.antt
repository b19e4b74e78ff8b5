use Rattle.std.proofs.Common.{not, ◌∙◌, rules, tests}
use Rattle.std.proofs.lemmas.Iterator.{YieldsList-from_slice}
use Rattle.std.proofs.lemmas.Iterator.Search.{position_from_yields_List}
use Rattle.strips.specs.Fitting.{fits}
use Rattle.strips.proofs.Keeping.{position_unfit}
use Rattle.strips.proofs.task.Task.first_unfit.Goals as goal

pub returns : goal.returns
returns c =
    let n = c.args.facts in
    position_from_yields_List (λ a. not (fits n a)) _ _ c.position.result c.position.ensures.ran (YieldsList-from_slice c.args.actions.now cc) (λ x b q k. search (rules, tests))
    ∙ position_unfit n c.args.actions.now
