-- The law of ordered keys, and the orders of the two kinds. Assumes nothing.
--
--   Orders       what a test "at most" must be
--   figure_leq   figures: by rank, so none is above every number
--   pair_leq     pairs: by the first number, then by the second
use Rattle.std.specs.Prelude.{◌≡◌, Bool, true, cond, ◌⊎◌, ◌==◌, nat_le, nat_lt}
use Rattle.figure.specs.declared.figure.Figure.{Figure}
use Rattle.figure.specs.Ranks.{rank}
use Rattle.queue.specs.declared.key.Pair.{Pair}

-- of two one is at most the other, both ways only if equal, and the order passes along a chain
pub record Orders {K : Type 0} (leq : K → K → Bool) : Type 0 where
  pub total : (x y : K) → (leq x y ≡ true) ⊎ (leq y x ≡ true)
  pub antisym : (x y : K) → leq x y ≡ true → leq y x ≡ true → x ≡ y
  pub trans : (x y z : K) → leq x y ≡ true → leq y z ≡ true → leq x z ≡ true

-- whether a figure is at most another
abbrev pub figure_leq : Figure → Figure → Bool
figure_leq f g = nat_le (rank f) (rank g)

-- whether a pair is at most another
abbrev pub pair_leq : Pair → Pair → Bool
pair_leq p q = cond (p.first == q.first) (nat_le p.second q.second) (nat_lt p.first q.first)
