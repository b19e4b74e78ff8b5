use Rattle.std.proofs.Common.{◌≡◌, ℕ, zero, suc, ◌/◌, ◌%◌, [], ◌∷◌, get_or, refl, ap, ◌∙◌}
use mathlib.Core.Path.{fun_ext}
use Rattle.strips.specs.Standing.{standing, bit}
use Rattle.strips.proofs.Places.{no_bit}
use Rattle.strips.proofs.state.State.new.Goals as goal

zeros : (i : ℕ) → ◌≡◌ {A = ℕ} (get_or (0 ∷ 0 ∷ 0 ∷ 0 ∷ []) i 0) 0
zeros zero = refl
zeros (suc zero) = refl
zeros (suc (suc zero)) = refl
zeros (suc (suc (suc zero))) = refl
zeros (suc (suc (suc (suc i)))) = refl

pub returns : goal.returns
unfolding standing
returns c = fun_ext (λ f. ap (λ n. bit n (f % 64)) (zeros (f / 64)) ∙ no_bit (f % 64))
