-- Facts moved one after another. Assumes nothing.
use Rattle.std.proofs.Common.{◌≡◌, ℕ, suc, ◌+◌, List, ◌++◌, Option, sym, refl, ap, ◌∙◌, subst, arith, below_more}
use Rattle.figure.specs.declared.figure.Figure.{Figure}
use Rattle.strips.specs.Tasks.{problem}
use Rattle.model.specs.Strips.{State}
use Rattle.model.specs.Figures.{Rule}
use Rattle.model.specs.Runs.{Call, ended}
use Rattle.session.specs.declared.session.Session.{Session}
use Rattle.session.specs.Sessions.{task_of, facts_of}
use Rattle.session.specs.Laws.{Led}
use Rattle.session_estimator.specs.Followed.{move, moves}
use Rattle.session_estimator.specs.Estimating.{Leads, Aligned, Followed}
use Rattle.session_estimator.specs.Tabled.{ended_append}

module _ {R Q : Type 0} (result : R → Rule) (qs : Q → Type 0) (pairs : Q → List (Option Figure)) where
  same_task : (s t : Session R Q) → t.base ≡ s.base → task_of t ≡ task_of s
  same_task s t e = ap (λ b. problem b.task) e

  -- calls after calls
  pub leads_more : (s t v : Session R Q) (cs ds : List Call) → Leads result qs pairs s t cs → Leads result qs pairs t v ds → Leads result qs pairs s v (cs ++ ds)
  leads_more s t v cs ds a b = record {
    base = b.base ∙ a.base;
    sound = λ h. b.sound (a.sound h);
    led = λ past h.
        subst (λ past'. Led result qs pairs past' v)
        (ap (λ p. ended p (ended (task_of s) past cs) ds) (same_task s t a.base) ∙ sym (ended_append (task_of s) past cs ds))
        (b.led (ended (task_of s) past cs) (a.led past h));
  }

  pub followed_none : (s : Session R Q) (u : State) → Followed result qs pairs s s 0 u
  followed_none s u = record {
    below = λ g lt. absurd (omega arith);
    beyond = λ g le. refl;
    leads = record { base = refl; sound = λ h. h; led = λ past h. h };
  }

  pub followed_more : (s t v : Session R Q) (f : ℕ) (u : State) → Followed result qs pairs s t f u → Aligned result qs pairs t v f (u f) → Followed result qs pairs s v (f + 1) u
  followed_more s t v f u a b = record {
    below = below_more _ _ (λ g lt. b.other g (λ e. omega arith) ∙ a.below g lt) b.here;
    beyond = λ g le. b.other g (λ e. omega arith) ∙ a.beyond g (omega arith);
    leads =
        let e : suc f ≡ f + 1 = omega arith in
        subst (λ n. Leads result qs pairs s v (moves n (facts_of s) u)) e
        (leads_more s t v (moves f (facts_of s) u) (move f (facts_of s f) (u f)) a.leads
        (subst (λ b'. Leads result qs pairs t v (move f b' (u f))) (a.beyond f (omega arith)) b.leads));
  }
