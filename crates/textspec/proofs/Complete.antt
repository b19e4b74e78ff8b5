-- The frames of a lawful problem are accepted in turn.
use Rattle.std.proofs.Common.{◌≡◌, ℕ, ◌+◌, ◌*◌, ◌/◌, ◌%◌, ◌<◌, ◌≤◌, eqb, ltb, List, [], ◌∷◌, ◌++◌, map, length, None, refl, ap, ◌∙◌, arith, length-append}
use Rattle.std.specs.List.{AllByRecursion}
use Rattle.std.proofs.lemmas.Bool.{lt-ltb, le-ltb, eq-eqb, ne_eqb, cond-true, cond-false}
use Rattle.std.proofs.lemmas.List.{length_push, length-map}
use Rattle.model.specs.Strips.{Action as Act, Problem, Listed, Fits, Lawful}
use Rattle.textspec.specs.declared.due.Due.{Due}
use Rattle.textspec.specs.declared.due.Due.TheVariants.{Action, Goal, Start, End, Nothing}
use Rattle.textspec.specs.Frames.{head_frame, action_frame, goal_frame, start_frame, end_frame, frames_of}
use Rattle.textspec.specs.Refusals.{refusal}
use Rattle.textspec.specs.Order.{due_at, due_after}
use Rattle.textspec.specs.Texts.{InTurn}
use Rattle.textspec.proofs.Accepts.{action_pass, action_sized, goal_pass, goal_sized, start_pass, start_sized, head_pass, head_sized, end_sized}

module _ (n w : ℕ) where
  pub due_head : (fs : List (List ℕ)) → due_after (head_frame n w ∷ fs) ≡ due_at n w (length fs)
  due_head fs = let e : 256 * (w / 256) + w % 256 ≡ w = omega arith in ap (λ x. due_at n x (length fs)) e

  pub at_action : (k : ℕ) → k < w → due_at n w k ≡ Action n
  at_action k h = cond-true (ltb k w) _ _ (lt-ltb k w h)

  pub at_goal : (k : ℕ) → k ≡ w → due_at n w k ≡ Goal n
  at_goal k h = cond-false (ltb k w) _ _ (le-ltb k w (omega arith)) ∙ cond-true (eqb k w) _ _ (eq-eqb k w h)

  pub at_start : (k : ℕ) → k ≡ w + 1 → due_at n w k ≡ Start n
  at_start k h =
      cond-false (ltb k w) _ _ (le-ltb k w (omega arith)) ∙ cond-false (eqb k w) _ _ (ne_eqb k w (λ e. omega arith))
      ∙ cond-true (eqb k (w + 1)) _ _ (eq-eqb k (w + 1) h)

  pub at_end : (k : ℕ) → k ≡ w + 2 → due_at n w k ≡ End
  at_end k h =
      cond-false (ltb k w) _ _ (le-ltb k w (omega arith)) ∙ cond-false (eqb k w) _ _ (ne_eqb k w (λ e. omega arith))
      ∙ cond-false (eqb k (w + 1)) _ _ (ne_eqb k (w + 1) (λ e. omega arith)) ∙ cond-true (eqb k (w + 2)) _ _ (eq-eqb k (w + 2) h)

  pub at_nothing : (k : ℕ) → k ≡ w + 3 → due_at n w k ≡ Nothing
  at_nothing k h =
      cond-false (ltb k w) _ _ (le-ltb k w (omega arith)) ∙ cond-false (eqb k w) _ _ (ne_eqb k w (λ e. omega arith))
      ∙ cond-false (eqb k (w + 1)) _ _ (ne_eqb k (w + 1) (λ e. omega arith)) ∙ cond-false (eqb k (w + 2)) _ _ (ne_eqb k (w + 2) (λ e. omega arith))

  -- a frame that passes where it is due
  here : (fs : List (List ℕ)) (due : Due) (b : List ℕ) → due_at n w (length fs) ≡ due → refusal due b ≡ None → refusal (due_after (head_frame n w ∷ fs)) b ≡ None
  here fs due b e r = ap (λ d. refusal d b) (due_head fs ∙ e) ∙ r

  tail_turn : (fs : List (List ℕ)) (goal start : List ℕ) → n ≤ 255 → length fs ≡ w → Listed n 255 goal → Listed n 255 start
      → InTurn (head_frame n w ∷ fs) (goal_frame goal ∷ start_frame start ∷ end_frame ∷ [])
  tail_turn fs goal start few e g s =
      let f1 = fs ++ goal_frame goal ∷ [] in
      let f2 = f1 ++ start_frame start ∷ [] in
      let l1 = length_push fs (goal_frame goal) in
      let l2 = length_push f1 (start_frame start) in (
        goal_sized n goal g few,
        here fs (Goal n) (goal_frame goal) (at_goal (length fs) e) (goal_pass n goal g),
        (
          start_sized n start s few,
          here f1 (Start n) (start_frame start) (at_start (length f1) (omega arith)) (start_pass n start s),
          (end_sized, here f2 End end_frame (at_end (length f2) (omega arith)) refl, tt),
        ),
      )

  actions_turn : (fs : List (List ℕ)) (acts : List Act) (rest : List (List ℕ)) → n ≤ 255 → length fs + length acts ≡ w → AllByRecursion (Fits n) acts
      → ((gs : List (List ℕ)) → length gs ≡ w → InTurn (head_frame n w ∷ gs) rest) → InTurn (head_frame n w ∷ fs) (map action_frame acts ++ rest)
  actions_turn fs [] rest few e h go = go fs (omega arith)
  actions_turn fs (a ∷ acts) rest few e h go = (
    action_sized n a h.0 few,
    here fs (Action n) (action_frame a) (at_action (length fs) (omega arith)) (action_pass n a h.0),
    actions_turn (fs ++ action_frame a ∷ []) acts rest few (omega (arith, length_push fs (action_frame a))) h.1 go,
  )

pub frames_turn : (p : Problem) → Lawful p → InTurn [] (frames_of p)
frames_turn p h =
    let n = p.facts in
    let w = length p.actions in (
      head_sized n w h.few h.actions_few,
      head_pass n w h.some h.actions_few,
      actions_turn n w [] p.actions (goal_frame p.goal ∷ start_frame p.start ∷ end_frame ∷ []) h.few (omega arith) h.actions_fit
          (λ gs e. tail_turn n w gs p.goal p.start h.few e h.goal h.start),
    )

-- after all of them nothing is due
pub frames_due : (p : Problem) → due_after (frames_of p) ≡ Nothing
frames_due p =
    let n = p.facts in
    let w = length p.actions in
    let fs = map action_frame p.actions in
    let rest = goal_frame p.goal ∷ start_frame p.start ∷ end_frame ∷ [] in
    due_head n w (fs ++ rest) ∙ at_nothing n w (length (fs ++ rest)) (omega (arith, length-append fs rest, length-map p.actions action_frame))
