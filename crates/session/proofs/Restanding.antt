-- One fact comes or goes: only its equation is another. Assumes nothing.
use Rattle.std.proofs.Common.{◌≡◌, ℕ, Bool, true, false, not, ◌&&◌, ◌||◌, eqb, List, Ok, Err, vec_len, Option, Result, sym, refl, ap, ◌∙◌, inl, inr, ⊎_elim}
use native.Mathlib.Nat.{ℕ_set}
use Rattle.std.proofs.lemmas.Bool.{cases_eq, eq-eqb, ne_eqb, true≢false, false≢true}
use Rattle.figure.specs.declared.figure.Figure.{Figure}
use Rattle.model.specs.Strips.{Problem, State, struck, entered, items}
use Rattle.model.specs.Figures.{Rule, table, equations}
use Rattle.model.proofs.Equations.{moved}
use Rattle.session_theory.specs.Kept.{Kept, Stale}
use Rattle.session_theory.proofs.Queues.{stale_none, stale_weaker}
use Rattle.session_theory.proofs.Turns.{restood}
use Rattle.strips.specs.Tasks.{problem}
use Rattle.strips.specs.declared.state.State.{State as StateValue}
use Rattle.strips.specs.Standing.{standing}
use Rattle.session.specs.declared.fault.SessionFault.{SessionFault}
use Rattle.session.specs.declared.session.Session.{Session}
use Rattle.session.specs.Sessions.{Restanding, Entering, Striking}

-- only the fact is stale
pub one_stale : (rule : Rule) (p : Problem) (s u : State) (held right : List Figure) (pairs : List (Option Figure)) (f : ℕ) → ((r : ℕ) → (r ≡ f → ⊥) → u r ≡ s r) → Kept (equations rule p s) held right pairs → Stale (equations rule p u) held right pairs (λ r. eqb f r)
one_stale rule p s u held right pairs f same k =
    restood (equations rule p s) (equations rule p u) held right pairs (λ r. eqb f r) k
    (λ r. ⊎_elim (λ e. inl (eq-eqb f r (sym e))) (λ o. inr (moved rule p u s (table held) r (same r o))) (cases_eq r f))

-- and none is once it is struck
pub none_stale : (rule : Rule) (p : Problem) (u : State) (held right : List Figure) (pairs : List (Option Figure)) (f : ℕ) → Stale (equations rule p u) held right pairs (struck f (λ r. eqb f r)) → Kept (equations rule p u) held right pairs
none_stale rule p u held right pairs f t =
    stale_none (equations rule p u) held right pairs (stale_weaker (equations rule p u) held right pairs (struck f (λ r. eqb f r)) (λ _. false) (λ r e. go (eqb f r) e) t) where
      go : (a : Bool) → (not a && a) ≡ true → false ≡ true
      go true e = e
      go false e = e

-- elsewhere an entered or a struck fact changes nothing
pub entered_other : (f : ℕ) (s : State) (r : ℕ) → (r ≡ f → ⊥) → entered f s r ≡ s r
entered_other f s r o = ap (λ a. a || s r) (ne_eqb f r (λ e. o (sym e)))

pub struck_other : (f : ℕ) (s : State) (r : ℕ) → (r ≡ f → ⊥) → struck f s r ≡ s r
struck_other f s r o = ap (λ a. not a && s r) (ne_eqb f r (λ e. o (sym e)))

-- a session built again of its parts is the same
pub again : {R Q : Type 0} (s : Session R Q) (a : vec_len s.held.figures ≡ items (problem s.base.task)) → record { base = s.base; state = s.state; held = s.held; settled = s.settled; long = a } ≡ s
again s a = ap (λ l. record { base = s.base; state = s.state; held = s.held; settled = s.settled; long = l }) (ℕ_set _ _ a s.long)

pub not_true : (b : Bool) → not b ≡ true → b ≡ false
not_true true e = absurd (false≢true e)
not_true false e = refl

pub not_false : (b : Bool) → not b ≡ false → b ≡ true
not_false true e = refl
not_false false e = absurd (true≢false e)

-- what enter and strike answer and leave, by what putting the other state in place does
module _ {R Q : Type 0} (s t : Session R Q) (to : StateValue) (f : ℕ) (changed : Bool) where
  pub entering : (r : Result Bool SessionFault) → changed ≡ not (standing s.state f) → standing to ≡ entered f (standing s.state) → Restanding s t to f changed r → Entering s t f r
  entering (Ok true) told after (known, e, m) = (known, not_true _ (sym told ∙ e), record { base = m.base; figures = m.figures; facts = ap standing m.state ∙ after; settled = m.settled })
  entering (Ok false) told after (known, e, same) = (known, not_false _ (sym told ∙ e), same)
  entering (Err x) told after a = a

  pub striking : (r : Result Bool SessionFault) → changed ≡ standing s.state f → standing to ≡ struck f (standing s.state) → Restanding s t to f changed r → Striking s t f r
  striking (Ok true) told after (known, e, m) = (known, sym told ∙ e, record { base = m.base; figures = m.figures; facts = ap standing m.state ∙ after; settled = m.settled })
  striking (Ok false) told after (known, e, same) = (known, sym told ∙ e, same)
  striking (Err x) told after a = a
