-- Each call's answer is right for the calls before it. Assumes nothing.
use Rattle.std.proofs.Common.{◌≡◌, ℕ, ◌*◌, ◌<◌, ◌≤◌, Bool, true, false, not, ◌&&◌, ltb, List, map, length, get_or, take, Ok, Err, vec_items, Option, Result, sym, refl, ap, ◌∙◌, subst, ap₂, ⊎_elim, arith, length-take}
use lib.ListN.{length-map}
use Rattle.std.proofs.lemmas.Bool.{cond-true, cond-false, lt-ltb, le-ltb, cases_Bool}
use Rattle.figure.specs.declared.figure.Figure.{Figure}
use Rattle.figure.specs.declared.figure.Figure.TheVariants.{None}
use Rattle.model.specs.Strips.{State as Facts, items, entered, struck}
use Rattle.model.specs.Figures.{Rule, table, equations, Solves}
use Rattle.model.specs.Runs.{Past, Shown, Right, Docketed}
use Rattle.model.specs.Runs.Call.{enter, strike, settle, figure, goal}
use Rattle.model.specs.Runs.Reply.{told, wrote, is, refused}
use Rattle.model.proofs.Passing.{pick_true, pick_false}
use Rattle.model.proofs.Ranked.{figure_rank}
use Rattle.strips.specs.Standing.{standing}
use Rattle.strips.specs.Tasks.{problem}
use Rattle.settling.specs.declared.base.Base.{Base}
use Rattle.settling.specs.declared.row.DocketRow.{DocketRow}
use Rattle.settling.specs.Holding.{row_of}
use Rattle.session.specs.declared.fault.SessionFault.{SessionFault}
use Rattle.session.specs.declared.session.Session.{Session}
use Rattle.session.specs.Refusals.{number_of}
use Rattle.session.specs.Sessions.{task_of, figures_of, Sound, Entering, Striking, Settles, Docketing, figure_answer, goal_answer}
use Rattle.session.specs.Laws.{told_of, shown_of, wrote_of, Led, Goes}

module _ {R Q : Type 0} (result : R → Rule) (qs : Q → Type 0) (pairs : Q → List (Option Figure)) (s t : Session R Q) where
  same_led : (past : Past) → t ≡ s → Led result qs pairs past s → Led result qs pairs past t
  same_led past e led = subst (Led result qs pairs past) (sym e) led

  shown_same : (shown : Option Facts) → t.base ≡ s.base → t.held.figures ≡ s.held.figures → Shown (task_of s) (result s.base.rule) shown (table (figures_of s)) → Shown (task_of t) (result t.base.rule) shown (table (figures_of t))
  shown_same shown b f h =
      subst (λ (v : Base R). Shown (problem v.task) (result v.rule) shown (table (figures_of t))) (sym b)
      (subst (λ v. Shown (task_of s) (result s.base.rule) shown (table (vec_items v))) (sym f) h)

  module _ (f : ℕ) (keeps : Sound result qs pairs s → Sound result qs pairs t) where
    pub enter_goes : (r : Result Bool SessionFault) → Entering s t f r → Goes result qs pairs s (enter f) (told_of r) t
    enter_goes (Ok true) (known, was, m) past led =
        let low : ltb f (task_of s).facts ≡ true = lt-ltb f (task_of s).facts known in
        let old : past.facts f ≡ false = ap (λ g. g f) (sym led.facts) ∙ was in (
          sym (cond-true _ _ _ low ∙ ap (λ b. told (not b)) old),
          subst (λ q. Led result qs pairs q t) (sym (cond-true _ _ _ (ap₂ (λ a b. a && not b) low old))) (record {
            sound = keeps led.sound;
            facts = m.facts ∙ ap (entered f) led.facts;
            settled = m.settled;
            shown = shown_same past.shown m.base m.figures led.shown;
          }),
        )
    enter_goes (Ok false) (known, was, e) past led =
        let low : ltb f (task_of s).facts ≡ true = lt-ltb f (task_of s).facts known in
        let old : past.facts f ≡ true = ap (λ g. g f) (sym led.facts) ∙ was in (
          sym (cond-true _ _ _ low ∙ ap (λ b. told (not b)) old),
          subst (λ q. Led result qs pairs q t) (sym (cond-false _ _ _ (ap₂ (λ a b. a && not b) low old))) (same_led past e led),
        )
    enter_goes (Err x) (far, why, e) past led =
        let high : ltb f (task_of s).facts ≡ false = le-ltb f (task_of s).facts far in (
          ap (λ v. refused (number_of v)) why ∙ sym (cond-false _ _ _ high),
          subst (λ q. Led result qs pairs q t) (sym (cond-false _ _ _ (ap (λ a. a && not (past.facts f)) high))) (same_led past e led),
        )

    pub strike_goes : (r : Result Bool SessionFault) → Striking s t f r → Goes result qs pairs s (strike f) (told_of r) t
    strike_goes (Ok true) (known, was, m) past led =
        let low : ltb f (task_of s).facts ≡ true = lt-ltb f (task_of s).facts known in
        let old : past.facts f ≡ true = ap (λ g. g f) (sym led.facts) ∙ was in (
          sym (cond-true _ _ _ low ∙ ap told old),
          subst (λ q. Led result qs pairs q t) (sym (cond-true _ _ _ (ap₂ (λ a b. a && b) low old))) (record {
            sound = keeps led.sound;
            facts = m.facts ∙ ap (struck f) led.facts;
            settled = m.settled;
            shown = shown_same past.shown m.base m.figures led.shown;
          }),
        )
    strike_goes (Ok false) (known, was, e) past led =
        let low : ltb f (task_of s).facts ≡ true = lt-ltb f (task_of s).facts known in
        let old : past.facts f ≡ false = ap (λ g. g f) (sym led.facts) ∙ was in (
          sym (cond-true _ _ _ low ∙ ap told old),
          subst (λ q. Led result qs pairs q t) (sym (cond-false _ _ _ (ap₂ (λ a b. a && b) low old))) (same_led past e led),
        )
    strike_goes (Err x) (far, why, e) past led =
        let high : ltb f (task_of s).facts ≡ false = le-ltb f (task_of s).facts far in (
          ap (λ v. refused (number_of v)) why ∙ sym (cond-false _ _ _ high),
          subst (λ q. Led result qs pairs q t) (sym (cond-false _ _ _ (ap (λ a. a && past.facts f) high))) (same_led past e led),
        )

  module _ (keeps : Sound result qs pairs s → Sound result qs pairs t) (first last : List DocketRow) (m : ℕ) where
    -- the docket may be longer than the rows that are lent of it
    pub settle_goes : (r : Result ℕ SessionFault) → Settles s t first last r → (Sound result qs pairs s → Docketing result s t last r) → length first ≤ m → (length first < 2 * items (task_of s) → m ≡ length first) → Goes result qs pairs s (settle m) (wrote_of last r) t
    settle_goes (Ok n) a figures wide exact past led =
        let p = task_of s in
        let rule = result s.base.rule in
        let b : ltb m (2 * items p) ≡ false = le-ltb m (2 * items p) (omega (arith, a.enough, wide)) in
        let d = figures led.sound in
        let solves : Solves (equations rule p past.facts) (table (figures_of t)) = subst (λ (z : Facts). Solves (equations rule p z) (table (figures_of t))) led.facts d.0 in
        let right : Docketed p rule past m (wrote (map row_of (take n last))) = record {
          rows = map row_of (take n last);
          wrote_rows = refl;
          fit = omega (arith, length-map (take n last) row_of, length-take n last, a.within, wide);
          before = figures_of s;
          after = figures_of t;
          before_long = omega (arith, s.long, s.held.figures.ok.0);
          earlier = led.shown;
          later = solves;
          docket = d.1;
        } in (
          pick_false (ltb m (2 * items p)) _ _ b right,
          subst (λ q. Led result qs pairs q t) (sym (cond-false _ _ _ b)) (record {
            sound = keeps led.sound;
            facts = ap standing a.state ∙ led.facts;
            settled = a.settled;
            shown = subst (λ (v : Base R). Solves (equations (result v.rule) (problem v.task) past.facts) (table (figures_of t))) (sym a.base) solves;
          }),
        )
    settle_goes (Err x) (short, why, e, same) figures wide exact past led =
        let p = task_of s in
        let b : ltb m (2 * items p) ≡ true = lt-ltb m (2 * items p) (omega (arith, short, exact short)) in (
          pick_true (ltb m (2 * items p)) _ _ b (ap (λ v. refused (number_of v)) why),
          subst (λ q. Led result qs pairs q t) (sym (cond-true _ _ _ b)) (same_led past e led),
        )

module _ {R Q : Type 0} (result : R → Rule) (qs : Q → Type 0) (pairs : Q → List (Option Figure)) (s : Session R Q) where
  -- settled figures are those of the only table for the facts of the past
  solved_now : (past : Past) → Led result qs pairs past s → s.settled ≡ true → Solves (equations (result s.base.rule) (task_of s) past.facts) (table (figures_of s))
  solved_now past led e = subst (λ (z : Facts). Solves (equations (result s.base.rule) (task_of s) z) (table (figures_of s))) led.facts (led.sound.solved e)

  pub figure_goes : (i : ℕ) (r : Result Figure SessionFault) → r ≡ figure_answer s i → Goes result qs pairs s (figure i) (shown_of r) s
  figure_goes i r e past led = (⊎_elim (λ b. ⊎_elim (λ st. told_it b st) (λ st. not_yet b st) (cases_Bool s.settled)) (λ b. unknown b) (cases_Bool (ltb i (items (task_of s)))), led) where
    told_it : ltb i (items (task_of s)) ≡ true → s.settled ≡ true → Right (task_of s) (result s.base.rule) past (figure i) (shown_of r)
    told_it b st =
        pick_true (ltb i (items (task_of s))) _ _ b (pick_true past.settled _ _ (sym led.settled ∙ st)
        (table (figures_of s), solved_now past led st, ap shown_of (e ∙ cond-true _ _ _ b ∙ cond-true _ _ _ st) ∙ ap is (sym (figure_rank (get_or (figures_of s) i None)))))

    not_yet : ltb i (items (task_of s)) ≡ true → s.settled ≡ false → Right (task_of s) (result s.base.rule) past (figure i) (shown_of r)
    not_yet b st =
        pick_true (ltb i (items (task_of s))) _ _ b (pick_false past.settled _ _ (sym led.settled ∙ st) (ap shown_of (e ∙ cond-true _ _ _ b ∙ cond-false _ _ _ st)))

    unknown : ltb i (items (task_of s)) ≡ false → Right (task_of s) (result s.base.rule) past (figure i) (shown_of r)
    unknown b = pick_false (ltb i (items (task_of s))) _ _ b (ap shown_of (e ∙ cond-false _ _ _ b))

  pub goal_goes : (r : Result Figure SessionFault) → r ≡ goal_answer result s → Goes result qs pairs s goal (shown_of r) s
  goal_goes r e past led = (⊎_elim (λ st. told_it st) (λ st. not_yet st) (cases_Bool s.settled), led) where
    told_it : s.settled ≡ true → Right (task_of s) (result s.base.rule) past goal (shown_of r)
    told_it st =
        pick_true past.settled _ _ (sym led.settled ∙ st) (table (figures_of s), solved_now past led st, ap shown_of (e ∙ cond-true _ _ _ st))

    not_yet : s.settled ≡ false → Right (task_of s) (result s.base.rule) past goal (shown_of r)
    not_yet st = pick_false past.settled _ _ (sym led.settled ∙ st) (ap shown_of (e ∙ cond-false _ _ _ st))
