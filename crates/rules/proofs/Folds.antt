-- The rules as folds: what the members so far make, whatever follows. Assumes nothing.
use Rattle.std.proofs.Common.{◌≡◌, ℕ, ◌+◌, max, List, [], ◌∷◌, ◌++◌, map, ap, arith}
use Rattle.std.proofs.lemmas.List.{append-nil, append_assoc}
use Rattle.figure.specs.declared.figure.Figure.{Figure}
use Rattle.figure.specs.Ranks.{rank, cut}
use Rattle.figure.proofs.Same.{rank_low}
use Rattle.model.specs.Figures.{Table, additive_rule, max_rule}
use Rattle.model.proofs.Equations.{additive_laws, max_laws}

module _ (x : Table) where
  abbrev pub Summed : List ℕ → Figure → Type 0
  Summed done sum = (rest : List ℕ) → additive_rule (map x (done ++ rest)) ≡ cut (rank sum + additive_rule (map x rest))

  pub summed_none : (f : Figure) → rank f ≡ 0 → Summed [] f
  summed_none f e rest = omega (arith, e, additive_laws.figure (map x rest))

  pub summed_more : (done : List ℕ) (q : ℕ) (a b : Figure) → Summed done a → rank b ≡ cut (rank a + x q) → Summed (done ++ (q ∷ [])) b
  summed_more done q a b so_far e rest =
      let m = ap (λ l. additive_rule (map x l)) (append_assoc done (q ∷ []) rest) in
      omega (arith, m, so_far (q ∷ rest), e)

  pub summed_all : (done : List ℕ) (f : Figure) → Summed done f → rank f ≡ additive_rule (map x done)
  summed_all done f so_far =
      let m = ap (λ l. additive_rule (map x l)) (append-nil done) in
      omega (arith, m, so_far [], rank_low f)

  abbrev pub Largest : List ℕ → Figure → Type 0
  Largest done most = (rest : List ℕ) → max_rule (map x (done ++ rest)) ≡ max (rank most) (max_rule (map x rest))

  pub largest_none : (f : Figure) → rank f ≡ 0 → Largest [] f
  largest_none f e rest = omega (arith, e)

  pub largest_more : (done : List ℕ) (q : ℕ) (a b : Figure) → Largest done a → rank b ≡ max (rank a) (x q) → Largest (done ++ (q ∷ [])) b
  largest_more done q a b so_far e rest =
      let m = ap (λ l. max_rule (map x l)) (append_assoc done (q ∷ []) rest) in
      omega (arith, m, so_far (q ∷ rest), e, rank_low b, max_laws.figure (map x rest))

  pub largest_all : (done : List ℕ) (f : Figure) → Largest done f → rank f ≡ max_rule (map x done)
  largest_all done f so_far =
      let m = ap (λ l. max_rule (map x l)) (append-nil done) in
      omega (arith, m, so_far [])
