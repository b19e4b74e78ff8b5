use Rattle.std.proofs.Common.{◌≡◌, ℕ, ◌<◌, false}
use Rattle.hexline.specs.Lines.{bytes_of}
use Rattle.textspec.specs.First.{first}
use Rattle.textspec.specs.Refusals.{out_of_bounds, not_rising}
use Rattle.tasktext.proofs.whole.Whole.check.Given as goal

-- no byte so far is out of bounds, and the first that does not rise is known
abbrev pub invariant-loop-k : goal.invariant-loop-k
invariant-loop-k l = record {
  bound : (i : ℕ) → i < l.k → out_of_bounds l.self.due (bytes_of l.self.line) i ≡ false;
  fall : l.fall ≡ first (not_rising l.self.due (bytes_of l.self.line)) l.k;
}
