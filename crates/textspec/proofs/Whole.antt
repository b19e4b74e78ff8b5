-- Accepted frames after which nothing is due are those of a lawful problem.
use Rattle.std.proofs.Common.{◌≡◌, ℕ, zero, suc, ◌+◌, ◌*◌, ◌<◌, ◌≤◌, List, [], ◌∷◌, ◌++◌, map, length, get_or, None, sym, refl, ap, ◌∙◌, subst, append_assoc, arith, length-append}
use Rattle.std.specs.List.{AllByRecursion}
use Rattle.std.proofs.lemmas.List.{append-nil, length_push, length-map}
use Rattle.model.specs.Strips.{Action as Act, Problem, Listed, Fits, Lawful}
use Rattle.textspec.specs.declared.due.Due.{Due}
use Rattle.textspec.specs.declared.due.Due.TheVariants.{Head, Action, Goal, Start, End, Nothing}
use Rattle.textspec.specs.Frames.{head_frame, action_frame, goal_frame, start_frame, end_frame, frames_of}
use Rattle.textspec.specs.Refusals.{refusal}
use Rattle.textspec.specs.Order.{due_at, due_after}
use Rattle.textspec.specs.Texts.{InTurn}
use Rattle.textspec.proofs.Shapes.{passed, head_is, end_is}
use Rattle.textspec.proofs.Complete.{due_head, at_action, at_goal, at_start, at_end, at_nothing}
use Rattle.textspec.proofs.Cut.{cut_action, cut_goal, cut_start}

action_not : (n : ℕ) (d : Due) → d ≡ Action n → d ≡ Nothing → ⊥
action_not n d a b = let z : ◌≡◌ {A = ℕ} 0 1 = cc in omega arith

goal_not : (n : ℕ) (d : Due) → d ≡ Goal n → d ≡ Nothing → ⊥
goal_not n d a b = let z : ◌≡◌ {A = ℕ} 0 1 = cc in omega arith

start_not : (n : ℕ) (d : Due) → d ≡ Start n → d ≡ Nothing → ⊥
start_not n d a b = let z : ◌≡◌ {A = ℕ} 0 1 = cc in omega arith

end_not : (d : Due) → d ≡ End → d ≡ Nothing → ⊥
end_not d a b = let z : ◌≡◌ {A = ℕ} 0 1 = cc in omega arith

none_due : (d : Due) (b : List ℕ) → d ≡ Nothing → refusal d b ≡ None → ⊥
none_due d b e r = let q : refusal Nothing b ≡ None = ap (λ x. refusal x b) (sym e) ∙ r in let z : ◌≡◌ {A = ℕ} 0 1 = cc in omega arith

module _ (n w : ℕ) where
  -- at the due frame
  as_due : (fs : List (List ℕ)) (due : Due) (b : List ℕ) → due_at n w (length fs) ≡ due → refusal (due_after (head_frame n w ∷ fs)) b ≡ None → refusal due b ≡ None
  as_due fs due b e r = ap (λ d. refusal d b) (sym (due_head n w fs ∙ e)) ∙ r

  record Acts (j : ℕ) (done rest : List (List ℕ)) : Type 0 where
    acts : List Act
    tail : List (List ℕ)
    is : rest ≡ map action_frame acts ++ tail
    size : length acts ≡ j
    fit : AllByRecursion (Fits n) acts
    turn : InTurn (head_frame n w ∷ (done ++ map action_frame acts)) tail

  acts_from : (j : ℕ) (done rest : List (List ℕ)) → length done + j ≡ w → InTurn (head_frame n w ∷ done) rest → due_after (head_frame n w ∷ (done ++ rest)) ≡ Nothing → Acts j done rest
  acts_from zero done rest e t d =
      record { acts = []; tail = rest; is = refl; size = refl; fit = tt; turn = subst (λ fs. InTurn (head_frame n w ∷ fs) rest) (sym (append-nil done)) t }
  acts_from (suc j) done [] e t d =
      absurd (action_not n _ (due_head n w (done ++ []) ∙ at_action n w (length (done ++ [])) (omega (arith, length-append done []))) d)
  acts_from (suc j) done (b ∷ rest) e t d =
      let c = cut_action n b (as_due done (Action n) b (at_action n w (length done) (omega arith)) t.1) in
      let a = c.act in
      let more = acts_from j (done ++ b ∷ []) rest (omega (arith, length_push done b)) t.2
      (ap (λ fs. due_after (head_frame n w ∷ fs)) (append_assoc done (b ∷ []) rest) ∙ d) in
      let same : (done ++ b ∷ []) ++ map action_frame more.acts ≡ done ++ action_frame a ∷ map action_frame more.acts =
      append_assoc done (b ∷ []) (map action_frame more.acts) ∙ ap (λ x. done ++ x ∷ map action_frame more.acts) c.is in
      record {
        acts = a ∷ more.acts;
        tail = more.tail;
        is = ap (λ x. x ∷ rest) c.is ∙ ap (λ xs. action_frame a ∷ xs) more.is;
        size = omega (arith, more.size);
        fit = (c.fit, more.fit);
        turn = subst (λ fs. InTurn (head_frame n w ∷ fs) more.tail) same more.turn;
      }

  record Tail (rest : List (List ℕ)) : Type 0 where
    goal : List ℕ
    start : List ℕ
    is : rest ≡ goal_frame goal ∷ start_frame start ∷ end_frame ∷ []
    goal_fit : Listed n 255 goal
    start_fit : Listed n 255 start

  -- the frame due so many after the actions
  after : (done more : List (List ℕ)) (k : ℕ) → length done ≡ w → length more ≡ k → length (done ++ more) ≡ w + k
  after done more k e l = omega (arith, length-append done more)

  tail_from : (done rest : List (List ℕ)) → length done ≡ w → InTurn (head_frame n w ∷ done) rest → due_after (head_frame n w ∷ (done ++ rest)) ≡ Nothing → Tail rest
  tail_from done [] e t d = absurd (goal_not n _ (due_head n w (done ++ []) ∙ at_goal n w (length (done ++ [])) (omega (arith, length-append done []))) d)
  tail_from done (g ∷ []) e t d = absurd (start_not n _ (due_head n w (done ++ g ∷ []) ∙ at_start n w (length (done ++ g ∷ [])) (after done (g ∷ []) 1 e refl)) d)
  tail_from done (g ∷ s ∷ []) e t d = absurd (end_not _ (due_head n w (done ++ g ∷ s ∷ []) ∙ at_end n w (length (done ++ g ∷ s ∷ [])) (after done (g ∷ s ∷ []) 2 e refl)) d)
  tail_from done (g ∷ s ∷ f ∷ []) e t d =
      let l1 = length_push done g in
      let l2 = length_push (done ++ g ∷ []) s in
      let x = cut_goal n g t.0.few (as_due done (Goal n) g (at_goal n w (length done) e) t.1) in
      let y = cut_start n s t.2.0.few (as_due (done ++ g ∷ []) (Start n) s (at_start n w (length (done ++ g ∷ [])) (omega arith)) t.2.1) in
      let z = end_is f (as_due ((done ++ g ∷ []) ++ s ∷ []) End f (at_end n w (length ((done ++ g ∷ []) ++ s ∷ [])) (omega arith)) t.2.2.1) in
      let p = x.is in let q = y.is in
      record { goal = x.list; start = y.list; is = cc; goal_fit = x.fit; start_fit = y.fit }
  tail_from done (g ∷ s ∷ f ∷ u ∷ rest) e t d =
      let l1 = length_push done g in
      let l2 = length_push (done ++ g ∷ []) s in
      let l3 = length_push ((done ++ g ∷ []) ++ s ∷ []) f in
      let fs = ((done ++ g ∷ []) ++ s ∷ []) ++ f ∷ [] in
      absurd (none_due _ u (due_head n w fs ∙ at_nothing n w (length fs) (omega arith)) t.2.2.2.1)

pub record Whole (frames : List (List ℕ)) : Type 0 where
  pub problem : Problem
  pub lawful : Lawful problem
  pub is : frames ≡ frames_of problem

whole_from : (n w : ℕ) (fs : List (List ℕ)) → 0 < n → n ≤ 255 → w ≤ 512 → InTurn (head_frame n w ∷ []) fs → due_after (head_frame n w ∷ fs) ≡ Nothing → Whole (head_frame n w ∷ fs)
whole_from n w fs some less few t d =
    let a = acts_from n w w [] fs (omega arith) t d in
    let m = map action_frame a.acts in
    let l : length m ≡ w = length-map a.acts action_frame ∙ a.size in
    let z = tail_from n w m a.tail l a.turn (ap (λ xs. due_after (head_frame n w ∷ xs)) (sym a.is) ∙ d) in
    record {
      problem = record { facts = n; actions = a.acts; goal = z.goal; start = z.start };
      lawful = record { some = some; few = less; actions_few = omega (arith, a.size); actions_fit = a.fit; goal = z.goal_fit; start = z.start_fit };
      is = ap (λ k. head_frame n k ∷ fs) (sym a.size) ∙ ap (λ xs. head_frame n (length a.acts) ∷ xs) (a.is ∙ ap (λ xs. m ++ xs) z.is);
    }

pub whole : (frames : List (List ℕ)) → InTurn [] frames → due_after frames ≡ Nothing → Whole frames
whole [] t d = let z : ◌≡◌ {A = ℕ} 0 1 = cc in absurd (omega arith)
whole (h ∷ fs) t d =
    let s = t.0.small in
    let p = head_is h (passed Head h t.1) (s 2) (s 3) in
    let n = get_or h 1 0 in
    let w = get_or h 2 0 * 256 + get_or h 3 0 in
    let r = whole_from n w fs p.1 (omega (arith, s 1)) p.2 (subst (λ x. InTurn (x ∷ []) fs) p.0 t.2) (ap (λ x. due_after (x ∷ fs)) (sym p.0) ∙ d) in
    subst (λ x. Whole (x ∷ fs)) (sym p.0) r
