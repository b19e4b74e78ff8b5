use Rattle.std.proofs.Common.{arith, rules, tests}
use Rattle.strips.specs.Standing.{standing}
use Rattle.strips.proofs.Firsts.{first_passing}
use Rattle.strips.proofs.Words.{inside, first_standing}
use Rattle.strips.proofs.state.State.first_from.Goals as goal

pub returns : goal.returns
unfolding standing
returns c =
    let ws = c.args.self.now.words in let n = c.args.number in
    first_standing ws n c.find.result (omega arith)
    (first_passing _ _ (inside ws) (λ x b q k. search (rules, tests)) c.new.result n 255 (cc) (cc) (cc) c.find.result c.find.ensures.runs)
