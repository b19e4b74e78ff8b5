-- What one step after another leaves. Assumes nothing.
use Rattle.std.proofs.Common.{◌≡◌, ℕ, List, Option, refl, sym, ◌∙◌, subst₂}
use Rattle.model.specs.Strips.{Problem, State}
use Rattle.strips.specs.Tasks.{problem}
use Rattle.estimator.specs.Meanings.{Leaves}
use Rattle.queue.specs.declared.key.Pair.{Pair}
use Rattle.rows.specs.declared.row.Row.{Row}
use Rattle.search_law.specs.declared.outcome.Outcome.{Outcome}
use Rattle.search_law.specs.Law.{Law}
use Rattle.search_law.specs.Refusals.{Memory, memory}
use Rattle.search.specs.declared.board.Board.{Board}
use Rattle.search.specs.Loans.{start, Same, Leaving}

module _ {E : Type 0} {suits : E → Problem → Type 0} {value : E → State → ℕ} {agrees : E → Type 0} where
  pub leaves_refl : (x : E) → Leaves suits value agrees x x
  leaves_refl x = record { still_fits = λ _ h. h; fitted = λ _ h. h; same_value = λ _. refl; still_agrees = λ h. h }

  pub leaves_trans : {x y z : E} → Leaves suits value agrees x y → Leaves suits value agrees y z → Leaves suits value agrees x z
  leaves_trans a b = record {
    still_fits = λ p h. b.still_fits p (a.still_fits p h);
    fitted = λ p h. a.fitted p (b.fitted p h);
    same_value = λ s. b.same_value s ∙ a.same_value s;
    still_agrees = λ h. b.still_agrees (a.still_agrees h);
  }

  module _ {Q : Type 0} {sound : Q → Type 0} where
    pub leaving_refl : (b : Board E Q) → Leaving suits value agrees sound b b
    leaving_refl b = record { same = record { task = refl; est = refl; queue = refl; rows = refl }; leaves = leaves_refl b.est.now; keeps = λ h. h }

    pub leaving_trans : {b c d : Board E Q} → Leaving suits value agrees sound b c → Leaving suits value agrees sound c d → Leaving suits value agrees sound b d
    leaving_trans u v = record {
      same = record { task = v.same.task ∙ u.same.task; est = v.same.est ∙ u.same.est; queue = v.same.queue ∙ u.same.queue; rows = v.same.rows ∙ u.same.rows };
      leaves = leaves_trans u.leaves v.leaves;
      keeps = λ h. v.keeps (u.keeps h);
    }

-- what is said of one board's task and first state, of another's too
module _ {E Q : Type 0} {b c : Board E Q} (same : Same b c) (e : start c ≡ start b) (P : Problem → State → Type 0) where
  pub onto : P (problem c.task.now) (start c) → P (problem b.task.now) (start b)
  onto h = subst₂ (λ t s. P (problem t.now) s) same.task e h

  pub back : P (problem b.task.now) (start b) → P (problem c.task.now) (start c)
  back h = subst₂ (λ t s. P (problem t.now) s) (sym same.task) (sym e) h

-- the promise of an outcome, of memory that is the same
pub law_same : {p : Problem} {s : State} {v : State → ℕ} {A S : Type 0} {before : Memory} {steps : List ℕ} {o : Outcome} (rows last : List Row) (t u : List (Option Pair)) → rows ≡ last → t ≡ u → Law p s v A S before (memory last steps u) o → Law p s v A S before (memory rows steps t) o
law_same {p} {s} {v} {A} {S} {before} {steps} {o} rows last t u e f h = subst₂ (λ r q. Law p s v A S before (memory r steps q) o) (sym e) (sym f) h
