-- A search's promise in the words of plans. Assumes nothing.
use Rattle.std.proofs.Common.{◌≡◌, ℕ, length, Ok, Err, Result, refl, subst}
use Rattle.model.specs.Strips.{Problem, State}
use Rattle.search_law.specs.declared.outcome.Outcome.{Outcome}
use Rattle.search_law.specs.declared.outcome.Outcome.TheVariants.{Plan as Found, NoPlan, RowsFull}
use Rattle.search_law.specs.declared.refusal.SearchRefusal.{SearchRefusal}
use Rattle.search_law.specs.declared.refusal.SearchRefusal.TheVariants.{EstimatorUnfit}
use Rattle.search_law.specs.Law.{Searched}
use Rattle.search_law.specs.Refusals.{Memory}
use Rattle.engine.specs.Whole.{Shortest}

pub shortest : (p : Problem) (s : State) (v : State → ℕ) (Fits Agrees Sound : Type 0) (before after : Memory) (r : Result Outcome SearchRefusal) → Searched p s v Fits Agrees Sound before after r → Agrees → Sound → Shortest p s (length before.rows) after.steps r
shortest p s v F A S before after (Ok (Found n used)) h a q = (h.1.says.plan, h.1.says.shortest a q)
shortest p s v F A S before after (Ok (NoPlan used)) h a q = h.1.says.none a
shortest p s v F A S before after (Ok (RowsFull used)) h a q = λ enough. h.1.enough enough refl
shortest p s v F A S before after (Err e) h a q = tt

-- an estimator that fits is not refused
pub never_unfit : (p : Problem) (s : State) (v : State → ℕ) (Fits Agrees Sound : Type 0) (before after : Memory) (r : Result Outcome SearchRefusal) → Searched p s v Fits Agrees Sound before after r → Fits → r ≡ Err EstimatorUnfit → ⊥
never_unfit p s v F A S before after r h fits e = (subst (λ o. Searched p s v F A S before after o) e h).0.3 fits
