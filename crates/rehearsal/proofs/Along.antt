-- A verdict, step by step. Assumes nothing.
use Rattle.std.proofs.Common.{◌≡◌, ℕ, ◌+◌, ◌<◌, ◌≤◌, cond, ltb, List, [], ◌∷◌, length, get_or, drop, Some, None, Err, Result, sym, refl, ap, ◌∙◌, ⊎_elim, arith, le-ltb, lt-ltb}
use Rattle.std.specs.List.{slice_get}
use Rattle.std.proofs.lemmas.List.{at_drop_more, at_drop_all}
use Rattle.std.proofs.lemmas.Bool.{cases_lt, false≢true}
use Rattle.model.specs.Strips.{Problem, Action, State, action, step, Within}
use Rattle.model.specs.Rehearsals.{Verdict, plan, unknown, blocked, missing, lacking, unless, verdict_from, verdict, good, refused, reading}
use Rattle.model.proofs.Rehearsals.{verdicts}
use Rattle.strips.specs.Members.{FirstFrom}
use Rattle.strips.proofs.Keeping.{known, beyond}
use Rattle.rehearsal.specs.declared.verdict.Verdict.{Verdict as Answer}
use Rattle.rehearsal.specs.declared.verdict.UnknownFact.{UnknownFact}
use Rattle.rehearsal.specs.Rehearsed.{shown, Rehearsed}

module _ (p : Problem) (acts : List ℕ) (i : ℕ) (s : State) where
  abbrev next : Verdict
  next = verdict_from p (i + 1) (step p (get_or acts i 0) s) (drop (i + 1) acts)

  abbrev tried : Verdict
  tried = unless (lacking s (action p (get_or acts i 0)).pre) (blocked i) next

  more : i < length acts → verdict_from p i s (drop i acts) ≡ cond (ltb (get_or acts i 0) (length p.actions)) tried (unknown i)
  more lt = at_drop_more (verdict_from p i s) acts i 0 lt

  pub at_unknown : i < length acts → slice_get p.actions (get_or acts i 0) ≡ None → verdict_from p i s (drop i acts) ≡ unknown i
  at_unknown lt e = more lt ∙ ap (λ b. cond b tried (unknown i)) (le-ltb _ _ (beyond p (get_or acts i 0) e))

  module _ (a : Action) (lt : i < length acts) (e : slice_get p.actions (get_or acts i 0) ≡ Some a) where
    at_tried : verdict_from p i s (drop i acts) ≡ unless (lacking s a.pre) (blocked i) next
    at_tried =
        let k = known p (get_or acts i 0) a e in
        more lt ∙ ap (λ b. cond b tried (unknown i)) (lt-ltb _ _ k.0) ∙ ap (λ b. unless (lacking s b.pre) (blocked i) next) k.1

    pub at_blocked : (f : ℕ) → lacking s a.pre ≡ Some f → verdict_from p i s (drop i acts) ≡ blocked i f
    at_blocked f m = at_tried ∙ ap (λ o. unless o (blocked i) next) m

    pub at_step : lacking s a.pre ≡ None → verdict_from p i s (drop i acts) ≡ next
    at_step m = at_tried ∙ ap (λ o. unless o (blocked i) next) m

  pub at_end : length acts ≤ i → verdict_from p i s (drop i acts) ≡ unless (lacking s p.goal) missing plan
  at_end le = at_drop_all (verdict_from p i s) acts i le

-- no refusal is a plan
not_good : {n : ℕ} {l : List ℕ} → refused n l ≡ good → ⊥
not_good e = cc

reading_good : (v : Verdict) → reading v ≡ good → v ≡ plan
reading_good plan e = refl
reading_good (unknown i) e = absurd (not_good e)
reading_good (blocked i f) e = absurd (not_good e)
reading_good (missing f) e = absurd (not_good e)

-- where no fact is beyond the task, the answer is the verdict
pub within_answer : (p : Problem) (s : State) (acts : List ℕ) (r : Result Answer UnknownFact) → Within p.facts s → shown r ≡ reading (verdict p s acts) → Rehearsed p s acts r
within_answer p s acts r none e = record {
  within = λ _. e;
  beyond = λ f first. absurd (false≢true (sym (none f first.0) ∙ first.1));
  plan = ((λ g. (verdicts p s acts plan).0 (reading_good (verdict p s acts) (sym e ∙ g))), (λ _ is. e ∙ ap reading ((verdicts p s acts plan).1 is)));
}

pub beyond_answer : (p : Problem) (s : State) (acts : List ℕ) (e : UnknownFact) → FirstFrom s p.facts (Some e.fact) → Rehearsed p s acts (Err e)
beyond_answer p s acts e first = record {
  within = λ none. absurd (false≢true (sym (none e.fact first.0) ∙ first.1));
  beyond = λ f other. ap (λ n. refused 8 (n ∷ [])) (one first other);
  plan = ((λ g. absurd (not_good g)), (λ none. absurd (false≢true (sym (none e.fact first.0) ∙ first.1))));
}
  where
    -- there is but one first
    one : {f g : ℕ} → FirstFrom s p.facts (Some f) → FirstFrom s p.facts (Some g) → f ≡ g
    one {f} {g} a b =
        ⊎_elim
        (λ lt. absurd (false≢true (sym (b.2 f a.0 lt) ∙ a.1)))
        (λ le. ⊎_elim (λ lt. absurd (false≢true (sym (a.2 g b.0 lt) ∙ b.1))) (λ ge. omega arith) (cases_lt g f))
        (cases_lt f g)
