use Rattle.std.proofs.Common.{ap, arith}
use Rattle.std.proofs.lemmas.Bool.Decides.{Decides-like, Decides-eqb}
use Rattle.std.proofs.lemmas.Slice.Eq.{slice_eq-Decides}
use Rattle.std.proofs.lemmas.List.{ext_get_or}
use Rattle.strips.specs.Standing.{standing}
use Rattle.strips.proofs.Words.{inside, word_same}
use Rattle.strips.proofs.state.StatePartialEq.eq.Goals as goal

pub returns-clause-same : goal.returns-clause-same
unfolding standing
returns-clause-same c =
    let s = c.args.self.now in let t = c.args.other.now in
    Decides-like _ (λ e. ap inside e) (λ e. ext_get_or 0 s.words t.words (omega arith) (λ k lt. word_same s.words t.words k (s.small k) (t.small k) e)) (slice_eq-Decides Decides-eqb s.words t.words _ c.eq.ensures)
