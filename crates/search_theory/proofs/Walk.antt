-- A plan is walked along the rows, up to the first that is queued. Assumes nothing.
use mathlib.Core.Path.{◌≡◌, refl, sym, subst}
use mathlib.Core.Logic.{◌⊎◌, inl, inr, ⊎_elim}
use mathlib.Core.Bool.{Bool, true, false}
use mathlib.Core.List.{List, [], ◌∷◌}
use Prim.Native.Nat.{ℕ, zero, suc, ◌+◌, ◌<◌, ◌≤◌}
use native.Mathlib.Omega.{arith}
use lib.ListN.{length}
use Rattle.model.specs.Strips.{State, Problem, Goal, Path, after, Plan}
use Rattle.model.specs.Heuristics.{AtMost}
use Rattle.search_theory.specs.Estimates.{AdmissibleOn, HasNoPlan, NoneShorter}
use Rattle.search_theory.specs.Rows.{Rows, Closed, Recorded, Queued, Kept, Told}
use Rattle.search_theory.specs.Frontiers.{Ahead, Least, Found, Reached}

pub either : (b : Bool) → (b ≡ true) ⊎ (b ≡ false)
either true = inl refl
either false = inr refl

pub differ : {b : Bool} → b ≡ true → b ≡ false → ⊥
differ {b} h l = let z : ◌≡◌ {A = ℕ} 0 1 = cc in omega arith

module _ (p : Problem) (s : State) (r : Rows) (q : Queued) (v : State → ℕ) (fair : AdmissibleOn p v) (told : Told v r) (k : Kept p s r q) where
  fair_at : (acts : List ℕ) (i : ℕ) → i < r.used → Plan p (r.row i).state acts → AtMost (r.row i).estimate (length acts)
  fair_at acts i lt plan = subst (λ h. AtMost h (length acts)) (sym (told i lt)) (fair (r.row i).state acts plan)

  ahead : (n : ℕ) (acts : List ℕ) (i : ℕ) → i < r.used → Plan p (r.row i).state acts → (r.row i).steps + length acts ≤ n → q i ≡ true → Ahead r q n i
  ahead n acts i lt plan le e =
      let a = fair_at acts i lt plan in
      record { within = lt; queued = e; least = omega (arith, a.low) }

  shut : (acts : List ℕ) (i : ℕ) → i < r.used → Plan p (r.row i).state acts → q i ≡ false → Closed p r (r.row i)
  shut acts i lt plan e = k.closed i lt (e, (fair_at acts i lt plan).number)

  walk : (n : ℕ) (acts : List ℕ) (i : ℕ) → i < r.used → Plan p (r.row i).state acts → (r.row i).steps + length acts ≤ n → (j : ℕ) × Ahead r q n j
  walk n [] i lt plan le = ⊎_elim (λ e. (i, ahead n [] i lt plan le e)) (λ e. absurd ((shut [] i lt plan e).short plan.1)) (either (q i))
  walk n (a ∷ acts) i lt plan le =
      ⊎_elim
      (λ e. (i, ahead n (a ∷ acts) i lt plan le e))
      (λ e.
      let (j, at) = (shut (a ∷ acts) i lt plan e).next a plan.0.0 in
      walk n acts j at.within (subst (λ u. Plan p u acts) (sym at.is) (plan.0.1, plan.1)) (omega (arith, at.soon)))
      (either (q i))

  pub frontier : (acts : List ℕ) → Plan p s acts → (i : ℕ) × Ahead r q (length acts) i
  frontier acts plan = walk (length acts) acts 0 k.base.some (subst (λ u. Plan p u acts) (sym k.base.start) plan) (omega (arith, k.base.none))

  pub none_left : ((i : ℕ) → i < r.used → q i ≡ false) → HasNoPlan p s
  none_left off acts plan =
      let (i, a) = frontier acts plan in
      differ a.queued (off i a.within)

  pub taken : (i : ℕ) → Least r q i → NoneShorter p s ((r.row i).steps + (r.row i).estimate)
  taken i least acts plan =
      let (j, a) = frontier acts plan in
      omega (arith, least j a.within a.queued, a.least)

-- the acts may be taken in turn from s, and P holds of the state after the last
abbrev pub Leads : Problem → (State → Type 0) → State → List ℕ → Type 0
Leads p P s acts = Path p s acts × P (after p s acts)

-- the way back from row i goes on with what leads on from there
module _ (p : Problem) (s : State) (r : Rows) (k : Recorded p s r) (P : State → Type 0) where
  pub back : (n i : ℕ) (rest : List ℕ) → i < r.used → (r.row i).steps ≤ n → Leads p P (r.row i).state rest → (acts : List ℕ) × (Leads p P s acts) × (length acts ≤ (r.row i).steps + length rest)
  back n zero rest lt le on = (rest, subst (λ u. Leads p P u rest) k.start on, omega arith)
  back zero (suc i) rest lt le on = absurd (omega (arith, (k.came (suc i) (omega arith) lt).less))
  back (suc n) (suc i) rest lt le on =
      let c = k.came (suc i) (omega arith) lt in
      let less = c.less in
      let on' = subst (λ u. Leads p P u rest) (sym c.is) on in
      let (acts, ok, short) = back n (r.row (suc i)).from ((r.row (suc i)).action ∷ rest) c.within (omega arith) ((c.may, on'.0), on'.1) in
      (acts, ok, omega arith)

pub reached : Reached
reached p s r k i lt =
    let (acts, ok, _) = back p s r k (λ u. u ≡ (r.row i).state) (r.row i).steps i [] lt (omega arith) (tt, refl) in
    (acts, ok.0, ok.1)

pub found : Found
found p s r k i lt goal =
    let (acts, ok, short) = back p s r k (Goal p) (r.row i).steps i [] lt (omega arith) (tt, goal) in
    (acts, ok, omega arith)
