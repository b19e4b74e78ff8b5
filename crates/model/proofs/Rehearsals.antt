-- A rehearsal's answer is given exactly where what it says is so. Assumes nothing.
use Rattle.std.proofs.Common.{◌≡◌, ℕ, zero, suc, ◌+◌, Bool, true, false, cond, ◌⊎◌, List, [], ◌∷◌, length, Some, None, sym, refl, ap, ◌∙◌, subst, inl, inr, ⊎_elim, arith, le-ltb, lt-ltb}
use Rattle.std.proofs.lemmas.Bool.{cases_lt}
use Rattle.std.specs.List.{AllByRecursion}
use Rattle.model.specs.Strips.{Problem, State, action, May, step, Goal, Plan, Stands, FirstMissing}
use Rattle.model.specs.Rehearsals.{Verdict, plan, unknown, blocked, missing, lacking, unless, verdict_from, Judged, Verdicts}

pub every_lacking : (s : State) (l : List ℕ) → AllByRecursion (Stands s) l → lacking s l ≡ None
every_lacking s [] h = refl
every_lacking s (x ∷ l) h = ap (λ b. cond b (lacking s l) (Some x)) h.0 ∙ every_lacking s l h.1

pub missing_lacking : (s : State) (l : List ℕ) (f : ℕ) → FirstMissing s l f → lacking s l ≡ Some f
missing_lacking s [] f h = absurd h
missing_lacking s (x ∷ l) f h = go (s x) h (missing_lacking s l f)
  where
    go : (b : Bool) → cond b (FirstMissing s l f) (x ≡ f) → (FirstMissing s l f → lacking s l ≡ Some f) → cond b (lacking s l) (Some x) ≡ Some f
    go true m rec = rec m
    go false e rec = ap Some e

-- either each fact stands, or one is the first that does not
pub told_lacking : (s : State) (l : List ℕ) → (AllByRecursion (Stands s) l × (lacking s l ≡ None)) ⊎ ((f : ℕ) × FirstMissing s l f × (lacking s l ≡ Some f))
told_lacking s [] = inl (tt, refl)
told_lacking s (x ∷ l) = go (s x) refl (told_lacking s l)
  where
    go : (b : Bool) → s x ≡ b → (AllByRecursion (Stands s) l × (lacking s l ≡ None)) ⊎ ((f : ℕ) × FirstMissing s l f × (lacking s l ≡ Some f))
        → (((s x ≡ true) × AllByRecursion (Stands s) l) × (cond (s x) (lacking s l) (Some x) ≡ None)) ⊎ ((f : ℕ) × cond (s x) (FirstMissing s l f) (x ≡ f) × (cond (s x) (lacking s l) (Some x) ≡ Some f))
    go true e (inl (h, k)) = inl ((e, h), ap (λ b. cond b (lacking s l) (Some x)) e ∙ k)
    go true e (inr (f, h, k)) = inr (f, subst (λ b. cond b (FirstMissing s l f) (x ≡ f)) (sym e) h, ap (λ b. cond b (lacking s l) (Some x)) e ∙ k)
    go false e t = inr (x, subst (λ b. cond b (FirstMissing s l x) (x ≡ x)) (sym e) refl, ap (λ b. cond b (lacking s l) (Some x)) e)

-- what an answer says of a list whose first action is step i
abbrev At : Problem → ℕ → State → List ℕ → Verdict → Type 0
At p i s acts plan = Plan p s acts
At p i s acts (unknown j) = (k : ℕ) × (j ≡ i + k) × Judged p s acts (unknown k)
At p i s acts (blocked j f) = (k : ℕ) × (j ≡ i + k) × Judged p s acts (blocked k f)
At p i s acts (missing f) = Judged p s acts (missing f)

module _ (p : Problem) where
  complete : (acts : List ℕ) (i : ℕ) (s : State) (v : Verdict) → At p i s acts v → verdict_from p i s acts ≡ v
  unfolding Goal May
  complete [] i s plan h = ap (λ o. unless o missing plan) (every_lacking s p.goal h.1)
  complete [] i s (unknown j) h = absurd (omega (arith, h.2.0.0))
  complete [] i s (blocked j f) h = absurd (omega (arith, h.2.0.0))
  complete [] i s (missing f) h = ap (λ o. unless o missing plan) (missing_lacking s p.goal f h.1)
  complete (a ∷ acts) i s plan h =
      let m = h.0.0 in
      ap (λ b. cond b (unless (lacking s (action p a).pre) (blocked i) (verdict_from p (i + 1) (step p a s) acts)) (unknown i)) (lt-ltb _ _ m.0)
      ∙ ap (λ o. unless o (blocked i) (verdict_from p (i + 1) (step p a s) acts)) (every_lacking s (action p a).pre m.1)
      ∙ complete acts (i + 1) (step p a s) plan (h.0.1, h.1)
  complete (a ∷ acts) i s (missing f) h =
      let m = h.0.0 in
      ap (λ b. cond b (unless (lacking s (action p a).pre) (blocked i) (verdict_from p (i + 1) (step p a s) acts)) (unknown i)) (lt-ltb _ _ m.0)
      ∙ ap (λ o. unless o (blocked i) (verdict_from p (i + 1) (step p a s) acts)) (every_lacking s (action p a).pre m.1)
      ∙ complete acts (i + 1) (step p a s) (missing f) (h.0.1, h.1)
  complete (a ∷ acts) i s (unknown j) (zero, e, h) =
      ap (λ b. cond b (unless (lacking s (action p a).pre) (blocked i) (verdict_from p (i + 1) (step p a s) acts)) (unknown i)) (le-ltb _ _ h.1)
      ∙ ap unknown (omega arith)
  complete (a ∷ acts) i s (unknown j) (suc k, e, h) =
      let m = h.0.1.0 in
      ap (λ b. cond b (unless (lacking s (action p a).pre) (blocked i) (verdict_from p (i + 1) (step p a s) acts)) (unknown i)) (lt-ltb _ _ m.0)
      ∙ ap (λ o. unless o (blocked i) (verdict_from p (i + 1) (step p a s) acts)) (every_lacking s (action p a).pre m.1)
      ∙ complete acts (i + 1) (step p a s) (unknown j) (k, omega arith, ((omega (arith, h.0.0), h.0.1.1), h.1))
  complete (a ∷ acts) i s (blocked j f) (zero, e, h) =
      ap (λ b. cond b (unless (lacking s (action p a).pre) (blocked i) (verdict_from p (i + 1) (step p a s) acts)) (unknown i)) (lt-ltb _ _ h.1)
      ∙ ap (λ o. unless o (blocked i) (verdict_from p (i + 1) (step p a s) acts)) (missing_lacking s (action p a).pre f h.2)
      ∙ ap (λ n. blocked n f) (omega arith)
  complete (a ∷ acts) i s (blocked j f) (suc k, e, h) =
      let m = h.0.1.0 in
      ap (λ b. cond b (unless (lacking s (action p a).pre) (blocked i) (verdict_from p (i + 1) (step p a s) acts)) (unknown i)) (lt-ltb _ _ m.0)
      ∙ ap (λ o. unless o (blocked i) (verdict_from p (i + 1) (step p a s) acts)) (every_lacking s (action p a).pre m.1)
      ∙ complete acts (i + 1) (step p a s) (blocked j f) (k, omega arith, ((omega (arith, h.0.0), h.0.1.1), h.1, h.2))

  -- some answer is so
  some : (acts : List ℕ) (i : ℕ) (s : State) → (v : Verdict) × At p i s acts v
  unfolding Goal May
  some [] i s = ⊎_elim (λ h. (plan, (tt, h.0))) (λ h. (missing h.0, (tt, h.1))) (told_lacking s p.goal)
  some (a ∷ acts) i s =
      ⊎_elim
      (λ lt. ⊎_elim
      (λ every. onward (lt, every.0) (some acts (i + 1) (step p a s)))
      (λ h. (blocked i h.0, (0, omega arith, ((omega arith, tt), lt, h.1))))
      (told_lacking s (action p a).pre))
      (λ le. (unknown i, (0, omega arith, ((omega arith, tt), le))))
      (cases_lt a (length p.actions))
    where
      onward : May p a s → (v : Verdict) × At p (i + 1) (step p a s) acts v → (v : Verdict) × At p i s (a ∷ acts) v
      onward m (plan, h) = (plan, ((m, h.0), h.1))
      onward m (unknown j, (k, e, h)) = (unknown j, (suc k, omega arith, ((omega (arith, h.0.0), (m, h.0.1)), h.1)))
      onward m (blocked j f, (k, e, h)) = (blocked j f, (suc k, omega arith, ((omega (arith, h.0.0), (m, h.0.1)), h.1, h.2)))
      onward m (missing f, h) = (missing f, ((m, h.0), h.1))

  at_judged : (s : State) (acts : List ℕ) (v : Verdict) → At p 0 s acts v → Judged p s acts v
  at_judged s acts plan h = h
  at_judged s acts (unknown j) (k, e, h) = let q : k ≡ j = omega arith in subst (λ n. Judged p s acts (unknown n)) q h
  at_judged s acts (blocked j f) (k, e, h) = let q : k ≡ j = omega arith in subst (λ n. Judged p s acts (blocked n f)) q h
  at_judged s acts (missing f) h = h

  judged_at : (s : State) (acts : List ℕ) (v : Verdict) → Judged p s acts v → At p 0 s acts v
  judged_at s acts plan h = h
  judged_at s acts (unknown j) h = (j, omega arith, h)
  judged_at s acts (blocked j f) h = (j, omega arith, h)
  judged_at s acts (missing f) h = h

pub verdicts : Verdicts
verdicts p s acts v = (
  (λ e. let (w, h) = some p acts 0 s in subst (Judged p s acts) (sym (complete p acts 0 s w h) ∙ e) (at_judged p s acts w h)),
  (λ h. complete p acts 0 s v (judged_at p s acts v h)),
)
