-- What an ending promises. Assumes nothing.
use Rattle.std.proofs.Common.{◌≡◌, ℕ, ◌+◌, List, length, Option, ◌∙◌, subst, arith}
use Rattle.model.specs.Strips.{State, Problem}
use Rattle.queue.specs.declared.key.Pair.{Pair}
use Rattle.rows.specs.declared.row.Row.{Row}
use Rattle.search_theory.specs.Estimates.{Enough, States}
use Rattle.search_theory.specs.Rows.{Rows, Recorded, Told}
use Rattle.search_theory.proofs.Count.{room}
use Rattle.search_law.specs.declared.outcome.Outcome.{Outcome}
use Rattle.search_law.specs.declared.outcome.Outcome.TheVariants.{Plan as Planned, NoPlan, RowsFull}
use Rattle.search_law.specs.Views.{view}
use Rattle.search_law.specs.Refusals.{Memory, memory}
use Rattle.search_law.specs.Law.{used_of, number_of, Says}

-- with rows enough they are never full
pub never_full : (p : Problem) (s : State) (A S : Type 0) (before after : Memory) (o : Outcome) → Recorded p s (view after.rows (used_of o)) → Says p s A S before after o → Enough p s (length before.rows) → number_of o ≡ 2 → ⊥
never_full p s A S before after (Planned n used) r says enough e = omega arith
never_full p s A S before after (NoPlan used) r says enough e = omega arith
never_full p s A S before after (RowsFull used) r says enough e =
    let (i, a, over) = says.new in
    enough (subst (λ n. States p s (n + 1)) says.full (room p s (view after.rows used) r i a over))

-- what an outcome says, under weaker premises, of more of the search
module _ (p : Problem) (s : State) (A B S T : Type 0) (first rows last : List Row) (out steps : List ℕ) (t u m n : List (Option Pair)) (long : length rows ≡ length first) where
  pub says_map : (o : Outcome) → (A → B) → (S → T) → Says p s B T (memory rows out u) (memory last steps m) o → Says p s A S (memory first out t) (memory last steps n) o
  says_map (Planned l used) f g r =
      let (i, x) = r.taken in
      record { fits = r.fits; plan = r.plan; shortest = λ a z. r.shortest (f a) (g z); rest = r.rest; taken = (i, record { within = x.within; goal = x.goal; soon = x.soon; first = λ z. x.first (g z) }); met = r.met }
  says_map (NoPlan used) f g r = record { none = λ a. r.none (f a); opened = r.opened; met = r.met; steps = r.steps }
  says_map (RowsFull used) f g r = record { full = r.full ∙ long; new = r.new; steps = r.steps }

pub told_like : (v u : State → ℕ) (r : Rows) → ((s : State) → v s ≡ u s) → Told v r → Told u r
told_like v u r e h i lt = h i lt ∙ e (r.row i).state
