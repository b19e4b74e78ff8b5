-- What an ask leaves. Assumes nothing.
use Rattle.std.proofs.Common.{◌≡◌, ℕ, suc, ◌+◌, ◌<◌, ◌≤◌, min, List, [], ◌∷◌, ◌++◌, length, get_or, take, drop, Some, None, Option, MatchOption, sym, ap, ◌∙◌, subst, arith}
use Rattle.std.proofs.Math.Seq.{take-length, take-append_seam}
use Rattle.std.proofs.lemmas.Option.{slice_get-get_or}
use Rattle.std.proofs.lemmas.List.{length-take-le}
use Rattle.std.specs.List.{AllWithin, HoldsAt, slice_get, refill}
use Rattle.figure.specs.declared.figure.Figure.{Figure}
use Rattle.figure.specs.Ranks.{rank}
use Rattle.model.specs.Strips.{State as Facts}
use Rattle.strips.specs.declared.state.State.{State}
use Rattle.strips.specs.Standing.{standing}
use Rattle.estimator.specs.declared.keeping.Kept.{Kept}
use Rattle.estimator.specs.Keeps.{entry, Lacks, Placed, moved, Again, FirstTime, Right}
use Rattle.estimator.proofs.Fronts.{every_append, every_take, every_drop, every_nth, every_below, there, take_moved, take_front, take_take, nth_take}

pub again : (l after : List Kept) (at : ℕ) (state : State) (x : Kept) → at < length l → Placed l (standing state) at → x ≡ get_or l at x → after ≡ x ∷ moved l at → Again l state x.figure after
again l after at state x lt p is e =
    let read = slice_get-get_or l at x lt in
    let same : p.one ≡ x = (let h = p.is in cc) in
    record { at = at; within = lt; placed = p; figure_is = ap (λ w. w.figure) same; now_kept = e ∙ ap (λ w. w ∷ moved l at) (sym same) }

-- the same of a list that is the front of another
module _ (slots after : List Kept) (count at : ℕ) (state : State) where
  pub again_of_first : (x : Kept) → count ≤ length slots → at < count → Placed slots (standing state) at → slice_get slots at ≡ Some x → after ≡ x ∷ moved slots at → Again (take count slots) state x.figure (take count after)
  again_of_first x le lt p is e =
      let same : p.one ≡ x = (let h = p.is in cc) in
      let less : min at count ≡ at = omega arith in
      record {
        at = at;
        within = omega (arith, length-take-le count slots le);
        placed = record { one = p.one; is = nth_take at count slots lt ∙ p.is; same = p.same; first = subst (λ l. Lacks l (standing state)) (sym (take_take at count slots ∙ ap (λ n. take n slots) less)) p.first };
        figure_is = ap (λ w. w.figure) same;
        now_kept = ap (take count) e ∙ take_moved at count slots x lt le ∙ ap (λ w. w ∷ moved (take count slots) at) (sym same);
      }

  pub first_time : (f : Figure) → length slots ≡ 16 → count ≤ 16 → at ≡ min count 15 → Lacks (take count slots) (standing state) → after ≡ entry state f ∷ moved slots at → FirstTime (take count slots) state f (take (at + 1) after)
  first_time f long few is new e =
      let more : at + 1 ≡ suc at = omega arith in
      let low : min 15 count ≡ at = omega arith in
      record {
        new = new;
        now_kept = ap (λ n. take n after) more ∙ ap (take (suc at)) e ∙ take_front at slots (drop (suc at) slots) (entry state f) (omega arith) ∙ ap (λ l. entry state f ∷ l) (sym (take_take 15 count slots ∙ ap (λ n. take n slots) low));
      }

module _ (v : Facts → ℕ) (before after : List Kept) (state : State) (f : Figure) (right : Right v before) where
  abbrev Good : Kept → Type 0
  Good w = rank w.figure ≡ v (standing w.state)

  pub again_figure : Again before state f after → rank f ≡ v (standing state)
  again_figure a =
      let h : Good a.placed.one = every_nth Good before a.at a.placed.one a.placed.is right in
      ap rank (sym a.figure_is) ∙ h ∙ ap v a.placed.same

  pub again_right : Again before state f after → Right v after
  again_right a = subst (Right v) (sym a.now_kept) (every_nth Good before a.at a.placed.one a.placed.is right, every_append Good (take a.at before) (drop (suc a.at) before) (every_take Good a.at before right) (every_drop Good (suc a.at) before right))

  pub first_right : rank f ≡ v (standing state) → FirstTime before state f after → Right v after
  first_right e a = subst (Right v) (sym a.now_kept) (every_take Good 16 (entry state f ∷ before) (e, right))

pub right_same : (v w : Facts → ℕ) (l : List Kept) → ((s : Facts) → w s ≡ v s) → Right v l → Right w l
right_same v w [] e h = tt
right_same v w (x ∷ l) e h = (h.0 ∙ sym (e (standing x.state)), right_same v w l e h.1)

-- the first place, told by what holds there and before it
pub place_of : (l : List Kept) (s : Facts) (found : Option ℕ) → MatchOption found (AllWithin (λ w. standing w.state ≡ s → ⊥) l 0 (length l)) (λ i. (i < length l) × HoldsAt (λ w. standing w.state ≡ s) l i × AllWithin (λ w. standing w.state ≡ s → ⊥) l 0 i) → MatchOption found (Lacks l s) (λ i. (i < length l) × Placed l s i)
place_of l s None h = subst (λ m. Lacks m s) (take-length l) (every_below (λ w. standing w.state ≡ s → ⊥) (length l) l h)
place_of l s (Some i) h =
    let (one, is) = there l i h.0 in
    let read = slice_get-get_or l i one h.0 in
    let same : get_or l i one ≡ one = cc in
    (h.0, record { one = one; is = is; same = sym (ap (λ w. standing w.state) same) ∙ h.1 one; first = every_below (λ w. standing w.state ≡ s → ⊥) i l h.2 })

-- a kept one is brought to the front of what is lent of the list, which then takes it back
pub again_lent : (l before after shown : List Kept) (at : ℕ) (state : State) (d : Kept) → before ≡ l → shown ≡ l → length after ≡ length before → (at < length l) × Placed l (standing state) at → ((one : Kept) → slice_get before at ≡ Some one → after ≡ one ∷ moved before at) → Again l state (get_or shown at d).figure (refill (length l) l after)
again_lent l before after shown at state d b s long p front =
    let is : slice_get before at ≡ Some p.1.one = ap (λ m. slice_get m at) b ∙ p.1.is in
    let back : refill (length l) l after ≡ after = ap (λ n. take n (after ++ drop (length after) l)) (sym (long ∙ ap length b)) ∙ take-append_seam after (drop (length after) l) in
    let new : refill (length l) l after ≡ p.1.one ∷ moved l at = back ∙ front p.1.one is ∙ ap (λ m. p.1.one ∷ moved m at) b in
    let read = slice_get-get_or l at d p.0 in
    let same : p.1.one ≡ get_or l at d = (let h = p.1.is in cc) in
    record { at = at; within = p.0; placed = p.1; figure_is = ap (λ w. w.figure) (same ∙ ap (λ m. get_or m at d) (sym s)); now_kept = new }
