use Rattle.std.proofs.Common.{◌≡◌, ℕ, ◌<◌, ◌≤◌, not, ◌&&◌, ◌||◌, get_or}
use Rattle.strips.specs.Standing.{bit}
use Rattle.strips.proofs.state.State.change.Given as goal

abbrev pub invariant-loop-i : goal.invariant-loop-i
invariant-loop-i l = record {
  done : (k : ℕ) → k < l.i → (j : ℕ) → j < 64 → bit (get_or l.self.words k 0) j ≡ ((bit (get_or l.initial.self.words k 0) j && not (bit (get_or l.deletes.words k 0) j)) || bit (get_or l.adds.words k 0) j);
  rest : (k : ℕ) → l.i ≤ k → get_or l.self.words k 0 ≡ get_or l.initial.self.words k 0;
}
