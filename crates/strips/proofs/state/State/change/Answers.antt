use Rattle.std.proofs.Common.{not, ◌&&◌, ◌||◌, get_or, refl, ap, ◌∙◌, arith, get_or-set_other, get_or-set_same, below_more, ◌<◌, ◌≤◌, ℕ, length-set}
use lib.Bits.{and_le_l, or_lt}
use Rattle.strips.specs.Standing.{standing, bit}
use Rattle.strips.proofs.Words.{change_word, change_words, small_set}
use Rattle.strips.proofs.state.State.change.Goals as goal

below : {a b c : ℕ} → a ≤ b → b < c → a < c
below h l = omega arith

pub invariant_of-self : goal.invariant_of-self
invariant_of-self c =
    let s = c.loop-i.self in let i = c.loop-i.i in
    let d = c.args.deletes.now in let a = c.args.adds.now in
    record {
      four = simp length-set s.four;
      small = small_set s.words i _ s.small (or_lt 64 _ _ (below (and_le_l _ _) (s.small i)) (omega (arith, d.small i, a.small i)));
    }

pub loop-i-init : goal.loop-i-init
loop-i-init c = record { done = λ k lt. absurd (omega arith); rest = λ k le. refl }

pub loop-i-preserved : goal.loop-i-preserved
loop-i-preserved c =
    let us = c.loop-i.self.words in let i = c.loop-i.i in
    let ds = c.args.deletes.now.words in let bs = c.args.adds.now.words in
    let inv = c.loop-i.invariant in record {
      done = below_more _ _
          (λ k lt j small. ap (λ n. bit n j) (get_or-set_other us i k _ 0 (λ e. omega arith)) ∙ inv.done k lt j small)
          (λ j small. ap (λ n. bit n j) (get_or-set_same us i _ 0 (omega arith)) ∙ change_word (get_or us i 0) (get_or ds i 0) (get_or bs i 0) j (omega arith) small
          ∙ ap (λ n. (bit n j && not (bit (get_or ds i 0) j)) || bit (get_or bs i 0) j) (inv.rest i (omega arith)));
      rest = λ k le. get_or-set_other us i k _ 0 (λ e. omega arith) ∙ inv.rest k (omega arith);
    }

pub returns : goal.returns
unfolding standing
returns c =
    change_words c.loop-i.self.words c.args.self.now.words c.args.deletes.now.words c.args.adds.now.words (omega arith) (omega arith) (omega arith) (omega arith) (λ k lt. c.loop-i.invariant.done k (omega arith))
