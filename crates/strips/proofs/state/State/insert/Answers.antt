use Rattle.std.proofs.Common.{◌*◌, ◌/◌, ◌%◌, ◌^◌, ◌<◌, get_or, arith, length-set}
use Rattle.std.proofs.lemmas.Nat.{one_shl, mod_below, pow_pos, or_lt}
use Rattle.strips.specs.Standing.{standing}
use Rattle.strips.proofs.Words.{insert_word, small_set}
use Rattle.strips.proofs.state.State.insert.Goals as goal

pub invariant_of-self : goal.invariant_of-self
invariant_of-self c =
    let s = c.args.self.now in let f = c.args.fact in
    record {
      four = simp length-set s.four;
      small = small_set s.words (f / 64) _ s.small (or_lt 64 (get_or s.words (f / 64) 0) ((1 * 2 ^ (f % 64)) % 2 ^ 64) (s.small (f / 64)) (mod_below (1 * 2 ^ (f % 64)) (2 ^ 64) (pow_pos 64)));
    }

pub returns-clause-after : goal.returns-clause-after
unfolding standing
returns-clause-after c =
    let f = c.args.fact in
    let small : f % 64 < 64 = omega arith in
    insert_word c.args.self.now.words f (omega arith) ((1 * 2 ^ (f % 64)) % 2 ^ 64) (one_shl (f % 64) 64 small)
