use Rattle.std.proofs.Common.{◌∙◌, rules}
use Rattle.std.specs.Prelude.{◌==◌}
use Rattle.std.proofs.lemmas.Iterator.{YieldsList-from_slice}
use Rattle.std.proofs.lemmas.Iterator.Search.{any_from_yields_List}
use borrow.Author.Tests.{tests}
use Rattle.links.proofs.Builds.{names_any}
use Rattle.links.proofs.lists.contains.Goals as goal

pub returns : goal.returns
returns c =
    any_from_yields_List (λ x. x == c.args.fact) _ _ _ c.any.ensures.ran (YieldsList-from_slice c.args.list.now cc) (λ x b q k. search (rules, tests))
    ∙ names_any c.args.list.now c.args.fact
