-- Which facts stand in a state. Assumes nothing.
--
--   bit        the bit of a number at a place
--   standing   the meaning of a state: fact f is bit f % 64 of word f / 64
--   nothing    the state in which nothing stands
use Rattle.std.specs.Prelude.{ℕ, ◌/◌, ◌%◌, ◌^◌, ◌<◌, Bool, [], ◌∷◌, ◌==◌, slice_index, refl}
use Rattle.std.proofs.Common.{zero, suc, lit<}
use Rattle.model.specs.Strips.{State as Facts}
use Rattle.strips.specs.declared.state.State.{State}

abbrev pub bit : ℕ → ℕ → Bool
bit w k = w / 2 ^ k % 2 == 1

unfoldable pub standing : State → Facts
standing s f = bit (slice_index s.words (f / 64)) (f % 64)

-- four words of no bits are small
pub small_zeros : (i : ℕ) → slice_index (0 ∷ 0 ∷ 0 ∷ 0 ∷ []) i < 2 ^ 64
small_zeros zero = lit< tt
small_zeros (suc zero) = lit< tt
small_zeros (suc (suc zero)) = lit< tt
small_zeros (suc (suc (suc zero))) = lit< tt
small_zeros (suc (suc (suc (suc i)))) = lit< tt

abbrev pub nothing : State
nothing = record { words = 0 ∷ 0 ∷ 0 ∷ 0 ∷ []; four = refl; small = small_zeros }
