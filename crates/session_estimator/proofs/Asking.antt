-- What a session answers when it is asked as an estimator. Assumes nothing.
use Rattle.std.proofs.Common.{◌≡◌, ℕ, ◌*◌, ◌≤◌, cond, List, [], ◌∷◌, length, Ok, Err, Option, Result, refl, ap, ◌∙◌, subst, arith}
use Rattle.figure.specs.declared.figure.Figure.{Figure}
use Rattle.figure.specs.Ranks.{rank}
use Rattle.strips.specs.Tasks.{problem}
use Rattle.model.specs.Strips.{State, items}
use Rattle.model.specs.Figures.{Rule, table, figure_of, max_rule, equations, Solves, goal_figure}
use Rattle.model.specs.Runs.{Reply}
use Rattle.model.specs.Runs.Call.{settle, goal}
use Rattle.settling.specs.declared.row.DocketRow.{DocketRow}
use Rattle.session.specs.declared.fault.SessionFault.{SessionFault}
use Rattle.session.specs.declared.fault.SessionFault.TheVariants.{Unsettled}
use Rattle.session.specs.declared.session.Session.{Session}
use Rattle.session.specs.Sessions.{task_of, facts_of, figures_of, Sound, Settles, Docketing, goal_answer}
use Rattle.session.specs.Laws.{Goes}
use Rattle.session_estimator.specs.Followed.{moves, asked}
use Rattle.session_estimator.specs.Estimating.{Leads, Followed, distance}
use Rattle.session_estimator.specs.Tabled.{tells_distance}
use Rattle.session_estimator.proofs.Follows.{leads_more}

module _ {R Q : Type 0} (qs : Q → Type 0) (pairs : Q → List (Option Figure)) where
  abbrev largest : R → Rule
  largest _ = max_rule

  settle_base : (t v : Session R Q) (first last : List DocketRow) (r : Result ℕ SessionFault) → Settles t v first last r → v.base ≡ t.base
  settle_base t v first last (Ok n) h = h.base
  settle_base t v first last (Err e) h = ap (λ s. s.base) h.2

  -- the calls of an estimate lead on
  pub leads_asked : (s t v : Session R Q) (u : State) (first last : List DocketRow) (r : Result ℕ SessionFault) (a b : Reply) →
      Followed largest qs pairs s t (task_of s).facts u → Settles t v first last r → (Sound largest qs pairs t → Sound largest qs pairs v) →
      Goes largest qs pairs t (settle (length first)) a v → Goes largest qs pairs v goal b v →
      Leads largest qs pairs s v (asked (task_of s) (facts_of s) u (length first))
  leads_asked s t v u first last r a b f st keeps gs gg =
      leads_more largest qs pairs s t v (moves (task_of s).facts (facts_of s) u) (settle (length first) ∷ goal ∷ []) f.leads
      (leads_more largest qs pairs t v v (settle (length first) ∷ []) (goal ∷ [])
      (record { base = settle_base t v first last r st; sound = keeps; led = λ past h. (gs past h).1 })
      (record { base = refl; sound = λ h. h; led = λ past h. (gg past h).1 }))

  -- a sound session with docket enough answers the distance
  pub answered : (s t v : Session R Q) (u : State) (first last : List DocketRow) (r : Result ℕ SessionFault) (a : Result Figure SessionFault) →
      Followed largest qs pairs s t (task_of s).facts u → Settles t v first last r → (Sound largest qs pairs t → Docketing largest t v last r) →
      a ≡ goal_answer largest v → 2 * items (task_of s) ≤ length first → Sound largest qs pairs s →
      (f : Figure) × (a ≡ Ok f) × (rank f ≡ distance (task_of s) u)
  answered s t v u first last (Ok n) a f st d e room snd =
      let x = table (figures_of v) in
      let pt : task_of t ≡ task_of s = ap (λ b. problem b.task) f.leads.base in
      let pv : task_of v ≡ task_of s = ap (λ b. problem b.task) st.base ∙ pt in
      let solves = subst (λ p. Solves (equations max_rule p (facts_of t)) x) pt (d (f.leads.sound snd)).0 in (
        figure_of (goal_figure max_rule (task_of v) x),
        e ∙ ap (λ b. cond b (Ok (figure_of (goal_figure max_rule (task_of v) x))) (Err Unsettled)) st.settled,
        ap (λ p. rank (figure_of (goal_figure max_rule p x))) pv ∙ tells_distance (task_of s) (facts_of t) u x f.below solves,
      )
  answered s t v u first last (Err z) a f st d e room snd =
      let pt : items (task_of t) ≡ items (task_of s) = ap (λ b. items (problem b.task)) f.leads.base in
      absurd (omega (arith, st.0))
