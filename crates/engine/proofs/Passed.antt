-- A result whose error is turned into another. Assumes nothing.
use Rattle.std.proofs.Common.{◌≡◌, Ok, Err, Result, subst}
use Rattle.std.specs.Result.{MatchResult, IsErrAnd}

-- what is told after the turn was told before it
pub was_ok : {T E D : Type 0} (r : Result T E) (Post : E → D → Type 0) {q : Result T D} {y : T} → MatchResult r (λ x. q ≡ Ok x) (λ e. IsErrAnd q (Post e)) → q ≡ Ok y → r ≡ Ok y
was_ok (Ok x) Post cases e = cc
was_ok (Err d) Post cases e = absurd (subst (λ q. IsErrAnd q (Post d)) e cases)
