-- A line more of a text that is read.
use Rattle.std.proofs.Common.{ℕ, ◌<◌, List, length, sym, subst}
use Rattle.textspec.specs.Texts.{Begins}
use Rattle.textspec.proofs.Each.{begins_next, shorter}
use Rattle.tasktext.specs.Loads.{Took}

module _ (frames frames' : List (List ℕ)) (text xs rest : List ℕ) (t : Took frames frames' xs rest) where
  pub begins_more : Begins text frames xs → Begins text frames' rest
  begins_more b = subst (λ fs. Begins text fs rest) (sym t.moved) (begins_next text frames xs rest t.bytes b t.line t.none)

  pub less_left : length rest < length xs
  less_left = shorter xs rest t.bytes t.line
