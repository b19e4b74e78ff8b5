-- What a task's invariants say of its problem. Assumes nothing.
use Rattle.std.proofs.Common.{◌≡◌, ℕ, zero, suc, ◌+◌, ◌<◌, ◌≤◌, Bool, true, false, not, cond, ◌&&◌, eqb, ltb, List, [], ◌∷◌, length, get_or, take, Some, None, vec_items, Option, sym, refl, ap, ◌∙◌, subst, ⊎_elim, arith, lt-ltb, length-take}
use mathlib.Core.Path.{fun_ext}
use lib.ListN.{length-map}
use Rattle.std.specs.List.{AllByRecursion, position_or_len}
use Rattle.std.proofs.lemmas.List.{get_or_past, get_or-map}
use Rattle.std.proofs.lemmas.Bool.Decides.{nat_tests}
use Rattle.std.proofs.lemmas.Bool.{ltb-true, ltb-false, and_parts, cases_lt, eq-eqb, false≢true}
use Rattle.model.specs.Strips.{Problem, Action as Means, Rising, Listed, Fits, Lawful, State as Facts, Stands, step, action, no_action, changed, these, names}
use Rattle.std.specs.List.{slice_get}
use Rattle.std.proofs.lemmas.Option.{slice_get-get_or, slice_get_within, get_or_from_slice_get}
use Rattle.strips.specs.declared.list.FactList.{FactList}
use Rattle.strips.specs.declared.action.Action.{Action}
use Rattle.strips.specs.declared.task.Task.{Task}
use Rattle.strips.specs.Lists.{listed}
use Rattle.strips.specs.Members.{Covers}
use Rattle.strips.specs.Actions.{action_of}
use Rattle.strips.specs.Fitting.{below, fits, all_fit}
use Rattle.strips.specs.declared.fault.TaskFault.TheVariants.{NoFacts, TooManyActions, InGoal, InStart}
use Rattle.strips.specs.Tasks.{problem, first_unfit, in_lists, flaw}
use Rattle.strips.proofs.Naming.{pass_every, every_map, every_like, named_stand, stand_named}

rising_take : (xs : List ℕ) (c : ℕ) → ((k : ℕ) → k + 1 < c → get_or xs k 0 < get_or xs (k + 1) 0) → Rising (take c xs)
rising_take [] zero h = tt
rising_take [] (suc c) h = tt
rising_take (x ∷ xs) zero h = tt
rising_take (x ∷ xs) (suc zero) h = tt
rising_take (x ∷ []) (suc (suc c)) h = tt
rising_take (x ∷ y ∷ xs) (suc (suc c)) h = (
  h 0 (omega arith),
  rising_take (y ∷ xs) (suc c) (λ k lt.
      let e : suc k + 1 ≡ suc (k + 1) = omega arith in
      subst (λ n. get_or (y ∷ xs) k 0 < get_or (x ∷ y ∷ xs) n 0) e (h (suc k) (omega arith))),
)

pub listed_rising : {n : ℕ} (l : FactList n) → Rising (listed l)
listed_rising l = rising_take l.facts l.count l.rising

pub listed_few : {n : ℕ} (l : FactList n) → length (listed l) ≤ n
listed_few l = simp length-take (omega (arith, l.few))

pub listed_fits : {n : ℕ} (l : FactList n) (m : ℕ) → below m (listed l) ≡ true → Listed m n (listed l)
listed_fits {n} l m h = record {
  few = listed_few l;
  rising = listed_rising l;
  known = every_like (λ f. ltb f m ≡ true) (λ f. f < m) (λ f e. ltb-true f m e) (listed l) (pass_every (λ f. ltb f m) (listed l) h);
}

action_fits : (m : ℕ) (a : Action) → fits m a ≡ true → Fits m (action_of a)
action_fits m a h =
    let p = and_parts (below m (listed a.preconditions.list)) _ h in
    let q = and_parts (below m (listed a.adds.list)) _ p.1 in
    record { pre = listed_fits a.preconditions.list m p.0; add = listed_fits a.adds.list m q.0; del = listed_fits a.deletes.list m q.1 }

-- every task is lawful
pub lawful : (t : Task) → Lawful (problem t)
lawful t = record {
  some = omega (arith, t.some);
  few = t.low;
  actions_few = omega (arith, t.few, t.actions.ok.0, length-map (vec_items t.actions) action_of);
  actions_fit = every_map (λ a. fits t.facts a ≡ true) (Fits t.facts) action_of (action_fits t.facts) (vec_items t.actions) (pass_every (fits t.facts) (vec_items t.actions) t.fit);
  goal = listed_fits t.goal.list t.facts t.goal_known;
  start = listed_fits t.start t.facts t.start_known;
}

none_of : {X : Type 0} {x : X} → Some x ≡ None → ⊥
none_of e = cc

-- the action of a number, where there is one
pub known : (p : Problem) (k : ℕ) (a : Means) → slice_get p.actions k ≡ Some a → (k < length p.actions) × (action p k ≡ a)
known p k a e = (slice_get_within _ k a e, get_or_from_slice_get _ k a no_action e)

pub beyond : (p : Problem) (k : ℕ) → slice_get p.actions k ≡ None → length p.actions ≤ k
beyond p k e = ⊎_elim (λ lt. absurd (none_of (sym (slice_get-get_or p.actions k no_action lt) ∙ e))) (λ le. le) (cases_lt k (length p.actions))

pub action_at : (t : Task) (k : ℕ) (a : Action) → k < length (vec_items t.actions) → a ≡ get_or (vec_items t.actions) k a → action (problem t) k ≡ action_of a
action_at t k a lt e = get_or-map action_of (vec_items t.actions) k a no_action lt ∙ ap action_of (sym e)

-- the state beside a list covers it
module _ (s : Facts) (m : Facts) (l : List ℕ) (same : (f : ℕ) → m f ≡ names l f) where
  pub covers_every : Covers s m → AllByRecursion (Stands s) l
  covers_every h = stand_named s l (λ f e. h f (same f ∙ e))

  pub every_covers : AllByRecursion (Stands s) l → Covers s m
  every_covers h f e = named_stand s l h f (sym (same f) ∙ e)

-- past the actions nothing changes
pub step_past : (p : Problem) (k : ℕ) (s : Facts) → length p.actions ≤ k → s ≡ step p k s
unfolding step
step_past p k s le =
    fun_ext (λ f. sym (ap (λ a. changed (these a.del) (these a.add) s f) (get_or_past p.actions k no_action le) ∙ none (s f)))
  where
    none : (b : Bool) → changed (these []) (these []) (λ _. b) 0 ≡ b
    none true = refl
    none false = refl

cond_none : {X : Type 0} (b : Bool) (o : Option X) (x : X) → cond b o (Some x) ≡ None → (b ≡ true) × (o ≡ None)
cond_none true o x h = (refl, h)
cond_none false o x h = absurd (none_of h)

cond_some : {X : Type 0} (b : Bool) (o : Option X) (x : X) → cond b (Some x) o ≡ None → (b ≡ false) × (o ≡ None)
cond_some true o x h = absurd (none_of h)
cond_some false o x h = (refl, h)

none_unfit : (n k : ℕ) (l : List Action) → first_unfit n k l ≡ None → all_fit n l ≡ true
none_unfit n k [] h = refl
none_unfit n k (a ∷ l) h =
    let q = cond_none (fits n a) (first_unfit n (k + 1) l) k h in
    ap (λ b. b && all_fit n l) q.0 ∙ none_unfit n (k + 1) l q.1

-- where the first unfit action lies, the first of the list being number k
unfit_from : (n k : ℕ) (l : List Action) → cond (ltb (position_or_len (λ a. not (fits n a)) l) (length l)) (Some (k + position_or_len (λ a. not (fits n a)) l)) None ≡ first_unfit n k l
unfit_from n k [] = refl
unfit_from n k (a ∷ l) = turn (fits n a) (position_or_len (λ a. not (fits n a)) l) (first_unfit n (k + 1) l) (unfit_from n (k + 1) l)
  where
    less : (x y : ℕ) → ltb (1 + x) (suc y) ≡ ltb x y
    less x y = grind (arith, nat_tests)

    turn : (b : Bool) (x : ℕ) (o : Option ℕ) → cond (ltb x (length l)) (Some (k + 1 + x)) None ≡ o
        → cond (ltb (cond (not (not b)) (1 + x) 0) (suc (length l))) (Some (k + cond (not (not b)) (1 + x) 0)) None ≡ cond b o (Some k)
    turn true x o e =
        let m : k + (1 + x) ≡ k + 1 + x = omega arith in
        let p : ◌≡◌ {A = Option ℕ} (cond (ltb (1 + x) (suc (length l))) (Some (k + (1 + x))) None) (cond (ltb x (length l)) (Some (k + (1 + x))) None) = ap (λ t. cond t (Some (k + (1 + x))) None) (less x (length l)) in
        let q : ◌≡◌ {A = Option ℕ} (cond (ltb x (length l)) (Some (k + (1 + x))) None) (cond (ltb x (length l)) (Some (k + 1 + x)) None) = ap (λ z. cond (ltb x (length l)) (Some z) None) m in
        p ∙ q ∙ e
    turn false x o e =
        let z : k + 0 ≡ k = omega arith in
        let p : ◌≡◌ {A = Option ℕ} (cond (ltb 0 (suc (length l))) (Some (k + 0)) None) (Some (k + 0)) = ap (λ t. cond t (Some (k + 0)) None) (lt-ltb 0 (suc (length l)) (omega arith)) in
        p ∙ ap Some z

pub position_unfit : (n : ℕ) (l : List Action) → cond (ltb (position_or_len (λ a. not (fits n a)) l) (length l)) (Some (position_or_len (λ a. not (fits n a)) l)) None ≡ first_unfit n 0 l
position_unfit n l = ap (λ m. cond (ltb (position_or_len (λ a. not (fits n a)) l) (length l)) (Some m) None) (omega arith) ∙ unfit_from n 0 l

pub record Unflawed (n : ℕ) (actions : List Action) (goal start : List ℕ) : Type 0 where
  pub some : 0 < n
  pub few : length actions ≤ 512
  pub fit : all_fit n actions ≡ true
  pub goal_known : below n goal ≡ true
  pub start_known : below n start ≡ true

pub unflawed : (n : ℕ) (actions : List Action) (goal start : List ℕ) → flaw n actions goal start ≡ None → Unflawed n actions goal start
unflawed n actions goal start h =
    let p = cond_some (eqb n 0) _ NoFacts h in
    let q = cond_some (ltb 512 (length actions)) _ TooManyActions p.1 in
    let r = listed_known (first_unfit n 0 actions) refl q.1 in
    record {
      some = ⊎_elim (λ lt. lt) (λ le. absurd (false≢true (sym p.0 ∙ eq-eqb n 0 (omega arith)))) (cases_lt 0 n);
      few = ltb-false 512 (length actions) q.0;
      fit = none_unfit n 0 actions r.0;
      goal_known = r.1;
      start_known = r.2;
    }
  where
    listed_known : (o : Option ℕ) → o ≡ first_unfit n 0 actions → in_lists n o goal start ≡ None → (first_unfit n 0 actions ≡ None) × (below n goal ≡ true) × (below n start ≡ true)
    listed_known (Some k) e h = absurd (none_of h)
    listed_known None e h =
        let p = cond_none (below n goal) _ InGoal h in
        let q = cond_none (below n start) None InStart p.1 in
        (sym e, p.0, q.0)
