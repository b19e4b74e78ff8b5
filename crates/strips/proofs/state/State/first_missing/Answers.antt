use Rattle.std.proofs.Common.{not, rules, tests}
use Rattle.std.proofs.lemmas.Iterator.{YieldsList-from_slice}
use Rattle.std.proofs.lemmas.Iterator.Consumers.{YieldsList-from_copied}
use Rattle.std.proofs.lemmas.Iterator.Search.{find_from_yields_List}
use Rattle.strips.specs.Standing.{standing}
use Rattle.strips.proofs.Naming.{find_lacking}
use Rattle.strips.proofs.state.State.first_missing.Goals as goal

pub returns : goal.returns
returns c =
    let s = standing c.args.self.now in
    find_lacking s c.args.list.now c.find.result
    (find_from_yields_List (λ f. not (s f)) _ _ c.find.result c.find.ensures.ran (YieldsList-from_copied (YieldsList-from_slice c.args.list.now cc)) (λ x b q k. search (rules, tests)))
