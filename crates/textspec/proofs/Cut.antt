-- Accepted frames, cut into the lists of a lawful problem.
use Rattle.std.proofs.Common.{◌≡◌, ℕ, suc, ◌+◌, ◌-◌, ◌<◌, ◌≤◌, true, ltb, List, [], ◌∷◌, length, get_or, take, drop, None, refl, ap, ◌∙◌, subst, arith, length-drop, get_or-drop, get_or-take}
use Rattle.std.specs.List.{AllByRecursion}
use Rattle.std.proofs.lemmas.List.{length-take-le}
use Rattle.std.proofs.lemmas.Bool.{and_parts, ltb-true, eqb-true, not-false}
use Rattle.model.specs.Strips.{Action as Act, Rising, Listed, Fits}
use Rattle.textspec.specs.declared.due.Due.TheVariants.{Action, Goal, Start}
use Rattle.textspec.specs.Frames.{action_frame, goal_frame, start_frame}
use Rattle.textspec.specs.Refusals.{refusal}
use Rattle.textspec.proofs.Refused.{action_whole}
use Rattle.textspec.proofs.Shapes.{under, Listing, passed, part_rising, part_under, action_count, action_is, list_goal, list_start, list_is, rest_under}

rising_from : (l : List ℕ) → ((k : ℕ) → k + 1 < length l → get_or l k 0 < get_or l (k + 1) 0) → Rising l
rising_from [] h = tt
rising_from (x ∷ []) h = tt
rising_from (x ∷ y ∷ l) h = (
  h 0 (omega arith),
  rising_from (y ∷ l) (λ k i.
      let e : suc k + 1 ≡ suc (k + 1) = omega arith in
      subst (λ j. get_or (y ∷ l) k 0 < get_or (x ∷ y ∷ l) j 0) e (h (suc k) (omega arith))),
)

known_from : (n : ℕ) (l : List ℕ) → under n l ≡ true → AllByRecursion (λ f. f < n) l
known_from n [] h = tt
known_from n (x ∷ l) h = let p = and_parts (ltb x n) (under n l) h in (ltb-true x n p.0, known_from n l p.1)

part_listed : (n m : ℕ) (b : List ℕ) (from count : ℕ) → count ≤ m → from + count ≤ length b
    → ((k : ℕ) → k + 1 < count → get_or b (from + k) 0 < get_or b (from + k + 1) 0) → under n (take count (drop from b)) ≡ true → Listed n m (take count (drop from b))
part_listed n m b from count few within rise low =
    let size = length-take-le count (drop from b) (omega (arith, length-drop from b)) in
    record {
      few = omega arith;
      rising = rising_from (take count (drop from b)) (λ k i.
          let x = get_or-take count (drop from b) k 0 (omega arith) ∙ get_or-drop from b k 0 in
          let y = get_or-take count (drop from b) (k + 1) 0 (omega arith) ∙ get_or-drop from b (k + 1) 0 in
          let e : from + (k + 1) ≡ from + k + 1 = omega arith in
          let z : get_or b (from + (k + 1)) 0 ≡ get_or b (from + k + 1) 0 = ap (λ j. get_or b j 0) e in
          omega (arith, rise k (omega arith)));
      known = known_from n (take count (drop from b)) low;
    }

-- an accepted action frame is that of an action that fits
pub record ActionOf (n : ℕ) (b : List ℕ) : Type 0 where
  pub act : Act
  pub is : b ≡ action_frame act
  pub fit : Fits n act

pub cut_action : (n : ℕ) (b : List ℕ) → refusal (Action n) b ≡ None → ActionOf n b
cut_action n b r =
    let h = passed (Action n) b r in
    let w = action_whole n b h.size in
    let p = get_or b 1 0 in let a = get_or b 2 0 in let d = get_or b 3 0 in
    let p16 = action_count n b h 1 (omega arith) (omega arith) (omega arith) in
    let a16 = action_count n b h 2 (omega arith) (omega arith) (omega arith) in
    let d16 = action_count n b h 3 (omega arith) (omega arith) (omega arith) in
    record {
      act = record { pre = take p (drop 4 b); add = take a (drop (4 + p) b); del = take d (drop (4 + p + a) b) };
      is = action_is n b h _ _ _ refl refl refl;
      fit = record {
        pre = part_listed n 16 b 4 p p16 (omega arith) (part_rising n b h 4 p (omega arith) (omega arith) (λ j i l. (λ q. omega arith, λ q. omega arith))) (part_under n b h 4 p (omega arith) (omega arith));
        add = part_listed n 16 b (4 + p) a a16 (omega arith) (part_rising n b h (4 + p) a (omega arith) (omega arith) (λ j i l. (λ q. omega arith, λ q. omega arith))) (part_under n b h (4 + p) a (omega arith) (omega arith));
        del = part_listed n 16 b (4 + p + a) d d16 (omega arith) (part_rising n b h (4 + p + a) d (omega arith) (omega arith) (λ j i l. (λ q. omega arith, λ q. omega arith))) (part_under n b h (4 + p + a) d (omega arith) (omega arith));
      };
    }

drop_listed : (n : ℕ) (b : List ℕ) → Listing b → length b ≤ 257 → under n (drop 2 b) ≡ true → Listed n 255 (drop 2 b)
drop_listed n b s few low =
    let size = length-drop 2 b in
    record {
      few = omega arith;
      rising = rising_from (drop 2 b) (λ k i.
          let x = get_or-drop 2 b k 0 in
          let y = get_or-drop 2 b (k + 1) 0 in
          let e : 2 + (k + 1) - 1 ≡ 2 + k = omega arith in
          let z : get_or b (2 + (k + 1) - 1) 0 ≡ get_or b (2 + k) 0 = ap (λ j. get_or b j 0) e in
          omega (arith, s.rising (2 + (k + 1)) (omega arith) (omega arith)));
      known = known_from n (drop 2 b) low;
    }

-- an accepted goal or start frame is that of a list
pub record ListOf (n : ℕ) (frame : List ℕ → List ℕ) (b : List ℕ) : Type 0 where
  pub list : List ℕ
  pub is : b ≡ frame list
  pub fit : Listed n 255 list

pub cut_goal : (n : ℕ) (b : List ℕ) → length b ≤ 257 → refusal (Goal n) b ≡ None → ListOf n goal_frame b
cut_goal n b few r =
    let h = passed (Goal n) b r in
    let s = list_goal n b h in
    record { list = drop 2 b; is = list_is 3 b (drop 2 b) s (eqb-true _ _ (not-false _ h.kind)) refl; fit = drop_listed n b s few (rest_under n b s.some h.bound) }

pub cut_start : (n : ℕ) (b : List ℕ) → length b ≤ 257 → refusal (Start n) b ≡ None → ListOf n start_frame b
cut_start n b few r =
    let h = passed (Start n) b r in
    let s = list_start n b h in
    record { list = drop 2 b; is = list_is 4 b (drop 2 b) s (eqb-true _ _ (not-false _ h.kind)) refl; fit = drop_listed n b s few (rest_under n b s.some h.bound) }
