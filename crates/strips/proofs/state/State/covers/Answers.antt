use Rattle.std.proofs.Common.{arith, rules, tests}
use Rattle.std.proofs.lemmas.Iterator.{YieldsList-from_slice, YieldsList-from_zip}
use Rattle.std.proofs.lemmas.Iterator.Search.{all_from_yields_List}
use Rattle.strips.specs.Standing.{standing}
use Rattle.strips.proofs.Words.{covered, zip_covers}
use Rattle.strips.proofs.state.State.covers.Goals as goal

pub returns : goal.returns
unfolding standing
returns c =
    let s = c.args.self.now in let t = c.args.other.now in
    zip_covers s.words t.words c.all.result (omega arith) (omega arith) t.small
    (all_from_yields_List covered c.all.new.self _ c.all.result c.all.ensures.ran (YieldsList-from_zip (YieldsList-from_slice s.words (cc)) (YieldsList-from_slice t.words (cc))) (λ x b q k. search (rules, tests)))
