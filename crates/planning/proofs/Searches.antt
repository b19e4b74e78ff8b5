-- What a search from the start says, in the words of plans and states. Assumes nothing.
use Rattle.std.proofs.Common.{◌≡◌, ℕ, ◌+◌, ◌<◌, ◌≤◌, false, ◌||◌, List, [], ◌∷◌, length, take, replicate, None, Ok, Err, Option, Result, sym, refl, ap, ◌∙◌, subst, arith}
use lib.ListN.{length-replicate}
use Rattle.std.specs.List.{AllByRecursion}
use Rattle.std.proofs.lemmas.Bool.{ne_eqb, true≢false}
use Rattle.model.specs.Strips.{Problem, State, Lawful, Within, names}
use Rattle.queue.specs.declared.key.Pair.{Pair}
use Rattle.queue.specs.Queues.{vacant}
use Rattle.search_theory.specs.Estimates.{States}
use Rattle.search_theory.proofs.Count.{room}
use Rattle.search_law.specs.declared.outcome.Outcome.{Outcome}
use Rattle.search_law.specs.declared.outcome.Outcome.TheVariants.{Plan as Found, NoPlan, RowsFull}
use Rattle.search_law.specs.declared.refusal.SearchRefusal.{SearchRefusal}
use Rattle.search_law.specs.declared.refusal.SearchRefusal.TheVariants.{StateBeyond, QueueUnfit, RowsUnfit, EstimatorUnfit}
use Rattle.search_law.specs.Views.{view}
use Rattle.search_law.specs.Refusals.{Memory, Accepted, Refused}
use Rattle.search_law.specs.Law.{used_of, Law, Searched}
use Rattle.planning.specs.Premises.{Unrefused}
use Rattle.planning.proofs.Figures.{vacant_new}
use Rattle.planning.specs.Laws.{rows, start_of, plan_length, Answered, Used}

unnamed_above : (n f : ℕ) (l : List ℕ) → AllByRecursion (λ g. g < n) l → n ≤ f → names l f ≡ false
unnamed_above n f [] h le = refl
unnamed_above n f (x ∷ l) h le = ap (λ b. b || names l f) (ne_eqb x f (λ e. omega (arith, h.0))) ∙ unnamed_above n f l h.1 le

-- no fact beyond the task stands at the start
pub start_within : (p : Problem) → Lawful p → Within p.facts (start_of p)
start_within p lawful f le = unnamed_above p.facts f p.start lawful.start.known le

-- a search that nothing is in the way of is not refused
pub not_refused : (p : Problem) (s : State) (Fits : Type 0) (m : Memory) (e : SearchRefusal) → Accepted p s Fits m → Refused p s Fits m e → ⊥
not_refused p s F m (StateBeyond fact) a r = true≢false (sym r.1 ∙ a.state fact r.0)
not_refused p s F m QueueUnfit a r = r.1 a.queue
not_refused p s F m RowsUnfit a r = r.2 a.rows
not_refused p s F m EstimatorUnfit a r = r.3 a.estimator

-- nothing is in the way of a search from the start over what is lent
pub accepted : (p : Problem) → Lawful p → (s : State) → s ≡ start_of p → (Fits : Type 0) → Fits → (m : Memory) → m.queue ≡ replicate rows None → length m.rows ≡ rows → length m.steps ≡ rows → Accepted p s Fits m
accepted p lawful s start F fits m empty long steps =
    let space : length m.queue ≡ rows = ap length empty ∙ length-replicate {A = Option Pair} rows None in
    record {
      state = subst (Within p.facts) (sym start) (start_within p lawful);
      queue = record { empty = ap vacant empty ∙ vacant_new Pair rows; space = omega arith };
      rows = record { some = omega arith; few = omega arith; steps = omega arith };
      estimator = fits;
    }

pub unrefused : (p : Problem) (s : State) (v : State → ℕ) (Fits Agrees Sound : Type 0) (before after : Memory) (r : Result Outcome SearchRefusal) → Accepted p s Fits before → Searched p s v Fits Agrees Sound before after r → Unrefused r
unrefused p s v F A S before after (Ok o) a h = tt
unrefused p s v F A S before after (Err e) a h = not_refused p s F before e a h.0

-- the law of the outcome, from the start
pub law_of : (p : Problem) (s : State) (v : State → ℕ) (Fits Agrees Sound : Type 0) (before after : Memory) (r : Result Outcome SearchRefusal) (o : Outcome) → s ≡ start_of p → r ≡ Ok o → Searched p s v Fits Agrees Sound before after r → Law p (start_of p) v Agrees Sound before after o
law_of p s v F A S before after r o start e h =
    subst (λ z. Law p z v A S before after o) start (subst (λ z. Searched p s v F A S before after z) e h).1

module _ (p : Problem) (v : State → ℕ) (Agrees Sound : Type 0) (before after : Memory) (agrees : Agrees) (sound : Sound) (long : length before.rows ≡ rows) where
  -- what the law of search says of plans, where the estimator agrees and the queue is sound
  pub answered : (o : Outcome) → Law p (start_of p) v Agrees Sound before after o → Answered p (take (plan_length o) after.steps) o
  answered (Found n used) h = (h.says.plan, h.says.shortest agrees sound)
  answered (NoPlan used) h = h.says.none agrees
  answered (RowsFull used) h =
      let full : used ≡ rows = h.says.full ∙ long in
      let over = h.says.new in
      (full, subst (λ n. States p (start_of p) (n + 1)) full (room p (start_of p) (view after.rows used) h.memory.recorded over.0 over.1 over.2))

  -- the rows used hold different states that can be reached
  pub used_rows : (o : Outcome) → Law p (start_of p) v Agrees Sound before after o → Used p (used_of o)
  used_rows o h = record {
    some = omega (arith, h.memory.recorded.some);
    few = omega (arith, h.memory.fits);
    states = record {
      state = λ i. ((view after.rows (used_of o)).row i).state;
      apart = h.memory.recorded.apart;
      reached = h.memory.reached;
    };
  }

  -- the plan is within the step list
  pub plan_fits : (o : Outcome) → Law p (start_of p) v Agrees Sound before after o → plan_length o ≤ length before.steps
  plan_fits (Found n used) h = h.says.fits
  plan_fits (NoPlan used) h = omega arith
  plan_fits (RowsFull used) h = omega arith
