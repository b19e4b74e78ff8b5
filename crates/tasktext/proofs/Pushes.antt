-- A fact that may join a list joins it.
use Rattle.std.proofs.Common.{◌≡◌, ℕ, ◌<◌, List, [], ◌∷◌, ◌++◌, length, Ok, Err, Result, arith}
use Rattle.strips.specs.declared.fault.ListFault.{ListFault}
use Rattle.strips.specs.declared.fault.ListFault.TheVariants.{Full, NotRising}
use Rattle.strips.specs.Lists.{Above, Pushed}

pub joins : (n : ℕ) (old : List ℕ) (f : ℕ) (new : List ℕ) (r : Result (Unit {0}) ListFault) → length old < n → Above old f → Pushed n old f new r → new ≡ old ++ f ∷ []
joins n old f new (Ok _) l a h = h.2
joins n old f new (Err Full) l a h = absurd (omega (arith, h.0))
joins n old f new (Err NotRising) l a h = absurd (h.1 a)
