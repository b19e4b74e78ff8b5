-- What a fresh session's answers tell of the start. Assumes nothing.
use Rattle.std.proofs.Common.{◌≡◌, ℕ, zero, suc, ◌-◌, ◌*◌, ◌<◌, true, false, cond, ltb, leb, List, [], ◌∷◌, map, length, get_or, replicate, None, Option, sym, refl, ap, ◌∙◌, subst, arith}
use lib.ListN.{length-replicate}
use Rattle.std.proofs.lemmas.Bool.{le-ltb, le-leb, and_from}
use Rattle.figure.specs.declared.figure.Figure.{Figure}
use Rattle.model.specs.Strips.{Problem, Lawful, items}
use Rattle.model.specs.Figures.{Rule, figure_of, goal_figure}
use Rattle.model.specs.Heuristics.{SetCost, OneCost, Agrees}
use Rattle.model.specs.Runs.{Call, Reply, fresh, at_rest, Right, Rights, Tabled}
use Rattle.model.specs.Runs.Call.{goal}
use Rattle.model.specs.Runs.Reply.{is}
use Rattle.queue.specs.Queues.{vacant}
use Rattle.session.specs.declared.call.Answer.{Answer}
use Rattle.session.specs.declared.call.Answer.TheVariants.{Told as Answered, Wrote, Is, Refused}
use Rattle.session.specs.declared.fault.SessionFault.{SessionFault}
use Rattle.session.specs.Openings.{ready, Why}
use Rattle.session.specs.Works.{reply_of}
use Rattle.planning.specs.Laws.{start_of, GoalTold}
use Rattle.planning.specs.Premises.{asked, Told}

module _ (rule : Rule) (cost : SetCost) (agrees : Agrees rule cost) (one : OneCost cost) (p : Problem) (lawful : Lawful p) where
  -- a figure of the only table is the heuristic's value
  told_of : (f : Figure) → Tabled p rule (at_rest (start_of p)) (goal_figure rule p) (is f) → GoalTold rule cost p f
  told_of f t =
      let g = one p lawful (start_of p) in
      let e : f ≡ figure_of (goal_figure rule p t.0) = same f (figure_of (goal_figure rule p t.0)) t.2 in
      record {
        table = t.0;
        solves = t.1;
        is = e;
        costs = g.0;
        are_costs = g.1;
        is_cost = e ∙ ap figure_of (agrees p lawful (start_of p) t.0 t.1 g.0 g.1).goal;
      }
    where
      same : (x y : Figure) → is x ≡ is y → x ≡ y
      same x y e = cc

  -- two right answers to the calls: the last tells the goal figure
  last_tells : (l : List Reply) → Rights p rule (fresh p) (asked p) l → (f : Figure) × ((a : Reply) × (l ≡ a ∷ is f ∷ [])) × GoalTold rule cost p f
  last_tells [] h = absurd h
  last_tells (a ∷ []) h = absurd h.1
  last_tells (a ∷ b ∷ []) h =
      let n = 2 * items p in
      let still : ltb n n ≡ false = le-ltb n n (omega arith) in
      let t : Tabled p rule (at_rest (start_of p)) (goal_figure rule p) b =
      subst (λ z. Right p rule (cond z (fresh p) (at_rest (start_of p))) goal b) still h.1.0 in
      let f = figure_of (goal_figure rule p t.0) in
      (f, (a, ap (λ z. a ∷ z ∷ []) t.2), told_of f (t.0, t.1, refl))
  last_tells (a ∷ b ∷ c ∷ l) h = absurd h.1.1

  module _ (q : Problem) (calls : List Call) (answers : List Answer) (e : q ≡ p) (d : calls ≡ asked p) (h : Rights q rule (fresh q) calls (map reply_of answers)) where
    -- so of answers to the calls that were made of a twin
    pub tells : (f : Figure) × Told answers f × GoalTold rule cost p f
    tells =
        last_tells (map reply_of answers)
        (subst (λ z. Rights z rule (fresh z) (asked p) (map reply_of answers)) e (subst (λ l. Rights q rule (fresh q) l (map reply_of answers)) d h))

    -- whichever figure the last answer tells
    pub goal_told : (f : Figure) → Told answers f → GoalTold rule cost p f
    goal_told f told = subst (GoalTold rule cost p) (both tells.1.0 told.0 tells.0 f (sym tells.1.1 ∙ told.1)) tells.2
      where
        both : (a b : Reply) (x y : Figure) → a ∷ is x ∷ [] ≡ b ∷ is y ∷ [] → x ≡ y
        both a b x y e = cc

-- a list of no keys holds nothing
pub vacant_new : (K : Type 0) (n : ℕ) → vacant (replicate {A = Option K} n None) ≡ true
vacant_new K zero = refl
vacant_new K (suc n) = vacant_new K n

-- a new queue with room for every item is ready, so an opening on it fails for want of memory alone
pub why_new : (p : Problem) (pairs : List (Option Figure)) (n : ℕ) (fault : SessionFault) → pairs ≡ replicate n None → n ≡ items p → Why (ready p pairs) fault → Why true fault
why_new p pairs n fault e m w = subst (λ b. Why b fault) is_ready w where
  long : length pairs ≡ items p
  long = ap length e ∙ length-replicate n None ∙ m

  is_ready : ready p pairs ≡ true
  is_ready = and_from (vacant pairs) (leb (items p) (length pairs)) (ap vacant e ∙ vacant_new Figure n) (le-leb (items p) (length pairs) (omega (arith, long)))

-- the last of two answers, of which it is told what figure it tells
pub last_told : (answers : List Answer) (f : Figure) (x : Answer) → Told answers f → x ≡ get_or answers (length answers - 1) x → x ≡ Is f
last_told [] f x t e = absurd (let z : ◌≡◌ {A = ℕ} 0 1 = cc t.1 in omega arith)
last_told (a ∷ []) f x t e = absurd (let z : ◌≡◌ {A = ℕ} 0 1 = cc t.1 in omega arith)
last_told (a ∷ b ∷ []) f x t e = e ∙ told_is b f (let h : reply_of b ≡ is f = cc t.1 in h)
  where
    told_is : (y : Answer) (f : Figure) → reply_of y ≡ is f → y ≡ Is f
    told_is (Answered b) f h = absurd (let z : ◌≡◌ {A = ℕ} 0 1 = cc in omega arith)
    told_is (Wrote rows) f h = absurd (let z : ◌≡◌ {A = ℕ} 0 1 = cc in omega arith)
    told_is (Is g) f h = let same : g ≡ f = cc in ap Is same
    told_is (Refused e) f h = absurd (let z : ◌≡◌ {A = ℕ} 0 1 = cc in omega arith)
last_told (a ∷ b ∷ c ∷ l) f x t e = absurd (let z : ◌≡◌ {A = ℕ} 0 1 = cc t.1 in omega arith)

-- there are answers
pub some_answer : (answers : List Answer) (f : Figure) → Told answers f → 0 < length answers
some_answer [] f t = absurd (let z : ◌≡◌ {A = ℕ} 0 1 = cc t.1 in omega arith)
some_answer (a ∷ l) f t = omega arith
