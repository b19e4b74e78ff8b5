-- The stages of a load, one frame after another.
use Rattle.std.proofs.Common.{◌≡◌, ℕ, ◌+◌, ◌*◌, ◌/◌, ◌%◌, ◌<◌, ◌≤◌, Bool, true, false, cond, ◌&&◌, eqb, ltb, leb, List, [], ◌∷◌, ◌++◌, map, length, sym, refl, ap, ◌∙◌, subst, ⊎_elim, append_assoc, arith, length-append}
use Rattle.std.proofs.lemmas.List.{length-map, map_push}
use Rattle.std.proofs.lemmas.Bool.{and_parts, and_from, leb-true, ltb-true, eqb-true, lt-ltb, le-ltb, ne_eqb, eq-eqb, cond-true, cond-false, cases_Bool}
use Rattle.std.proofs.lemmas.Bool.Decides.{nat_tests}
use Rattle.std.specs.List.{list_all}
use Rattle.textspec.specs.declared.due.Due.{Due}
use Rattle.textspec.specs.declared.due.Due.TheVariants.{Head, Action, Goal, Start, End, Nothing}
use Rattle.model.specs.Strips.{Action as Act}
use Rattle.textspec.specs.Frames.{head_frame, action_frame, goal_frame, start_frame, end_frame}
use Rattle.textspec.specs.Order.{due_at, due_after}
use Rattle.tasktext.specs.Stage.{in_order, before}

-- the four parts of `in_order`
pub four : (m f w : ℕ) (t : Bool) → (eqb m f && (ltb 0 f && (leb w 512 && t))) ≡ true → (m ≡ f) × (0 < f) × (w ≤ 512) × (t ≡ true)
four m f w t h =
    let a = and_parts (eqb m f) (ltb 0 f && (leb w 512 && t)) h in
    let b = and_parts (ltb 0 f) (leb w 512 && t) a.1 in
    let c = and_parts (leb w 512) t b.1 in
    (eqb-true m f a.0, ltb-true 0 f b.0, leb-true w 512 c.0, c.1)

pub make_four : (m f w : ℕ) (t : Bool) → m ≡ f → 0 < f → w ≤ 512 → t ≡ true → (eqb m f && (ltb 0 f && (leb w 512 && t))) ≡ true
make_four m f w t a b c d = and_from _ _ (eq-eqb m f a) (and_from _ _ (lt-ltb 0 f b) (and_from _ _ (leb_from w c) d))
  where
    leb_from : (w : ℕ) → w ≤ 512 → leb w 512 ≡ true
    leb_from w h = grind (arith, nat_tests)

abbrev pub count : Due → ℕ → ℕ
count Head n = 0
count (Action m) n = n + 1
count (Goal m) n = n + 1
count (Start m) n = n + 2
count End n = n + 3
count Nothing n = n + 4

pub few : (due : Due) (f w n : ℕ) → in_order due f w n ≡ true → n ≤ 512
few Head f w n h = omega (arith, eqb-true n 0 h)
few (Action m) f w n h = let q = four m f w (ltb n w) h in omega (arith, ltb-true n w q.3)
few (Goal m) f w n h = let q = four m f w (eqb n w) h in omega (arith, eqb-true n w q.3)
few (Start m) f w n h = let q = four m f w (eqb n w) h in omega (arith, eqb-true n w q.3)
few End f w n h = let q = four f f w (eqb n w) (and_from _ _ (eq-eqb f f refl) h) in omega (arith, eqb-true n w q.3)
few Nothing f w n h = let q = four f f w (eqb n w) (and_from _ _ (eq-eqb f f refl) h) in omega (arith, eqb-true n w q.3)

module _ (f w : ℕ) (acts : List Act) (goal start : List ℕ) where
  maps : length (map action_frame acts) ≡ length acts
  maps = length-map acts action_frame

  pub counted : (due : Due) → length (before due f w acts goal start) ≡ count due (length acts)
  counted Head = refl
  counted (Action m) = omega (arith, maps)
  counted (Goal m) = omega (arith, maps)
  counted (Start m) = omega (arith, maps, length-append (map action_frame acts) (goal_frame goal ∷ []))
  counted End = omega (arith, maps, length-append (map action_frame acts) (goal_frame goal ∷ start_frame start ∷ []))
  counted Nothing = omega (arith, maps, length-append (map action_frame acts) (goal_frame goal ∷ start_frame start ∷ end_frame ∷ []))

  at : (W N k : ℕ) → W ≡ w → N ≡ k → due_at f W N ≡ due_at f w k
  at W N k e h = ap (λ x. due_at f x N) e ∙ ap (due_at f w) h

  sum : 256 * (w / 256) + w % 256 ≡ w
  sum = omega arith

  pub due_of : (due : Due) → in_order due f w (length acts) ≡ true → due ≡ due_after (before due f w acts goal start)
  due_of Head h = refl
  due_of (Action m) h =
      let q = four m f w (ltb (length acts) w) h in
      ap Action q.0 ∙ sym (at _ _ (length acts) sum maps ∙ cond-true (ltb (length acts) w) _ _ q.3)
  due_of (Goal m) h =
      let q = four m f w (eqb (length acts) w) h in
      let e = eqb-true _ _ q.3 in
      ap Goal q.0 ∙ sym (at _ _ (length acts) sum maps ∙ cond-false (ltb (length acts) w) _ _ (le-ltb _ _ (omega arith)) ∙ cond-true (eqb (length acts) w) _ _ q.3)
  due_of (Start m) h =
      let q = four m f w (eqb (length acts) w) h in
      let e = eqb-true _ _ q.3 in
      ap Start q.0 ∙ sym (at _ _ (w + 1) sum (omega (arith, counted (Start m)))
      ∙ cond-false (ltb (w + 1) w) _ _ (le-ltb _ _ (omega arith)) ∙ cond-false (eqb (w + 1) w) _ _ (ne_eqb _ _ (omega arith)) ∙ cond-true (eqb (w + 1) (w + 1)) _ _ (eq-eqb (w + 1) (w + 1) refl))
  due_of End h =
      let q = four f f w (eqb (length acts) w) (and_from _ _ (eq-eqb f f refl) h) in
      let e = eqb-true _ _ q.3 in
      sym (at _ _ (w + 2) sum (omega (arith, counted End))
      ∙ cond-false (ltb (w + 2) w) _ _ (le-ltb _ _ (omega arith)) ∙ cond-false (eqb (w + 2) w) _ _ (ne_eqb _ _ (omega arith)) ∙ cond-false (eqb (w + 2) (w + 1)) _ _ (ne_eqb _ _ (omega arith)) ∙ cond-true (eqb (w + 2) (w + 2)) _ _ (eq-eqb (w + 2) (w + 2) refl))
  due_of Nothing h =
      let q = four f f w (eqb (length acts) w) (and_from _ _ (eq-eqb f f refl) h) in
      let e = eqb-true _ _ q.3 in
      sym (at _ _ (w + 3) sum (omega (arith, counted Nothing))
      ∙ cond-false (ltb (w + 3) w) _ _ (le-ltb _ _ (omega arith)) ∙ cond-false (eqb (w + 3) w) _ _ (ne_eqb _ _ (omega arith)) ∙ cond-false (eqb (w + 3) (w + 1)) _ _ (ne_eqb _ _ (omega arith)) ∙ cond-false (eqb (w + 3) (w + 2)) _ _ (ne_eqb _ _ (omega arith)))

  -- one more frame
  pub step_action : (m : ℕ) (a : Act) (b : List ℕ) (due : Due) → due ≡ Action m → b ≡ action_frame a
      → head_frame f w ∷ map action_frame (acts ++ a ∷ []) ≡ before due f w acts goal start ++ b ∷ []
  step_action m a b due d e =
      ap (λ x. head_frame f w ∷ x) (map_push action_frame acts a ∙ ap (λ x. map action_frame acts ++ x ∷ []) (sym e)) ∙ ap (λ x. before x f w acts goal start ++ b ∷ []) (sym d)

  pub step_start : (m : ℕ) (start' b : List ℕ) (due : Due) → due ≡ Start m → b ≡ start_frame start'
      → before End f w acts goal start' ≡ before due f w acts goal start ++ b ∷ []
  step_start m start' b due d e =
      ap (λ x. head_frame f w ∷ (map action_frame acts ++ goal_frame goal ∷ x ∷ [])) (sym e)
      ∙ sym (ap (λ x. head_frame f w ∷ x) (append_assoc (map action_frame acts) (goal_frame goal ∷ []) (b ∷ [])))
      ∙ ap (λ x. before x f w acts goal start ++ b ∷ []) (sym d)

  pub step_end : (b : List ℕ) (due : Due) → due ≡ End → b ≡ end_frame → before Nothing f w acts goal start ≡ before due f w acts goal start ++ b ∷ []
  step_end b due d e =
      ap (λ x. head_frame f w ∷ (map action_frame acts ++ goal_frame goal ∷ start_frame start ∷ x ∷ [])) (sym e)
      ∙ sym (ap (λ x. head_frame f w ∷ x) (append_assoc (map action_frame acts) (goal_frame goal ∷ start_frame start ∷ []) (b ∷ [])))
      ∙ ap (λ x. before x f w acts goal start ++ b ∷ []) (sym d)

pub order_next : (f w n : ℕ) → 0 < f → w ≤ 512 → n ≤ w → in_order (cond (eqb n w) (Goal f) (Action f)) f w n ≡ true
order_next f w n a b c =
    ⊎_elim
    (λ e. subst (λ t. in_order (cond t (Goal f) (Action f)) f w n ≡ true) (sym e) (make_four f f w (eqb n w) refl a b e))
    (λ e. subst (λ t. in_order (cond t (Goal f) (Action f)) f w n ≡ true) (sym e) (make_four f f w (ltb n w) refl a b (grind (arith, nat_tests))))
    (cases_Bool (eqb n w))

pub before_next : (t : Bool) (m f w : ℕ) (acts : List Act) (goal start : List ℕ) → before (cond t (Goal m) (Action m)) f w acts goal start ≡ head_frame f w ∷ map action_frame acts
before_next true m f w acts goal start = refl
before_next false m f w acts goal start = refl

pub pass_push : {X : Type 0} (p : X → Bool) (xs : List X) (x : X) → list_all p xs ≡ true → p x ≡ true → list_all p (xs ++ x ∷ []) ≡ true
pass_push p [] x h e = rw e
pass_push p (y ∷ ys) x h e = let q = and_parts (p y) (list_all p ys) h in and_from _ _ q.0 (pass_push p ys x q.1 e)
