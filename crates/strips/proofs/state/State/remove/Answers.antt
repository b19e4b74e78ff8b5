use Rattle.std.proofs.Common.{◌*◌, ◌%◌, ◌^◌, ◌<◌, arith}
use Rattle.std.proofs.lemmas.Nat.{one_shl, mod_below, pow_pos}
use Rattle.strips.specs.Standing.{standing}
use Rattle.strips.proofs.Words.{remove_word}
use Rattle.strips.proofs.state.State.remove.Goals as goal

pub returns-clause-after : goal.returns-clause-after
unfolding standing
returns-clause-after c =
    let f = c.args.fact in
    let small : f % 64 < 64 = omega arith in
    remove_word c.args.self.now.words f (omega arith) ((1 * 2 ^ (f % 64)) % 2 ^ 64) (one_shl (f % 64) 64 small) (mod_below (1 * 2 ^ (f % 64)) (2 ^ 64) (pow_pos 64))
