-- What an accepted frame looks like.
use Rattle.std.proofs.Common.{◌≡◌, ℕ, zero, suc, ◌+◌, ◌-◌, ◌*◌, ◌/◌, ◌%◌, ◌<◌, ◌≤◌, Bool, true, false, cond, not, ◌&&◌, eqb, ltb, leb, ◌≢◌, List, [], ◌∷◌, ◌++◌, length, get_or, take, drop, Some, None, Option, sym, refl, ap, ◌∙◌, subst, arith, length-drop, get_or-drop, get_or-take}
use Rattle.std.specs.List.{list_all}
use Rattle.std.proofs.lemmas.List.{take-append-drop, take_all, drop-drop, length-take-le}
use Rattle.std.proofs.lemmas.Bool.{and_parts, and_from, leb-true, leb-false, eqb-true, not-false, lt-ltb, ne_eqb, or_parts, le-leb}
use Rattle.std.proofs.lemmas.Bool.Decides.{nat_tests}
use Rattle.textspec.specs.First.{first}
use Rattle.textspec.specs.declared.due.Due.{Due}
use Rattle.textspec.specs.declared.due.Due.TheVariants.{Head, Action, Goal, Start, End}
use Rattle.textspec.specs.Refusals.{Refusal, not_due, whole, out_of_bounds, follows, not_rising, first_refused, refusal}
use Rattle.textspec.specs.Frames.{action_frame, head_frame}
use Rattle.textspec.proofs.Firsts.{first_none_at}
use Rattle.textspec.proofs.Refused.{action_whole}

-- each fact is below n
abbrev pub under : ℕ → List ℕ → Bool
under n xs = list_all (λ x. ltb x n) xs

-- a kind, a count and that many rising facts
pub record Listing (b : List ℕ) : Type 0 where
  pub some : 2 ≤ length b
  pub size : length b ≡ 2 + get_or b 1 0
  pub rising : (k : ℕ) → 2 < k → k < length b → get_or b (k - 1) 0 < get_or b k 0

-- a frame that passes every test
pub record Passed (due : Due) (b : List ℕ) : Type 0 where
  pub kind : not_due due b ≡ false
  pub size : whole due b ≡ true
  pub bound : (k : ℕ) → k < length b → out_of_bounds due b k ≡ false
  pub rising : (k : ℕ) → k < length b → not_rising due b k ≡ false

pub passed : (due : Due) (b : List ℕ) → refusal due b ≡ None → Passed due b
passed due b e =
    let p = parts (not_due due b) (whole due b) (first (out_of_bounds due b) (length b)) (first (not_rising due b) (length b)) _ _ e in
    record { kind = p.0; size = p.1; bound = λ k l. first_none_at (out_of_bounds due b) (length b) k p.2 l; rising = λ k l. first_none_at (not_rising due b) (length b) k p.3 l }
  where
    parts : (n w : Bool) (o r : Option ℕ) (x y : Refusal) → cond n (Some x) (cond w (first_refused 5 o (first_refused 6 r None)) (Some y)) ≡ None
        → (n ≡ false) × (w ≡ true) × (o ≡ None) × (r ≡ None)
    parts true w o r x y e = let z : ◌≡◌ {A = ℕ} 0 1 = cc in absurd (omega arith)
    parts false false o r x y e = let z : ◌≡◌ {A = ℕ} 0 1 = cc in absurd (omega arith)
    parts false true (Some k) r x y e = let z : ◌≡◌ {A = ℕ} 0 1 = cc in absurd (omega arith)
    parts false true None (Some k) x y e = let z : ◌≡◌ {A = ℕ} 0 1 = cc in absurd (omega arith)
    parts false true None None x y e = (refl, refl, refl, refl)

pub pass_take : (p : ℕ → Bool) (xs : List ℕ) (n : ℕ) → n ≤ length xs → ((k : ℕ) → k < n → p (get_or xs k 0) ≡ true) → list_all p (take n xs) ≡ true
pass_take p xs zero l h = refl
pass_take p [] (suc n) l h = refl
pass_take p (x ∷ xs) (suc n) l h = and_from _ _ (h 0 (omega arith)) (pass_take p xs n (omega arith) (λ k i. h (suc k) (omega arith)))

pub under_part : (n : ℕ) (b : List ℕ) (from count : ℕ) → from + count ≤ length b → ((k : ℕ) → from ≤ k → k < from + count → get_or b k 0 < n) → under n (take count (drop from b)) ≡ true
under_part n b from count l h =
    pass_take (λ x. ltb x n) (drop from b) count (omega (arith, length-drop from b))
    (λ k i. ap (λ x. ltb x n) (get_or-drop from b k 0) ∙ lt-ltb _ n (h (from + k) (omega arith) (omega arith)))

pub three : (xs : List ℕ) (p a d : ℕ) → length xs ≡ p + a + d → take p xs ++ (take a (drop p xs) ++ take d (drop (p + a) xs)) ≡ xs
three xs p a d e =
    let ys = drop p xs in
    let e1 : take d (drop (p + a) xs) ≡ drop (p + a) xs = take_all d (drop (p + a) xs) (omega (arith, length-drop (p + a) xs)) in
    let e2 : drop a ys ≡ drop (p + a) xs = drop-drop a p xs in
    let e3 : take a ys ++ drop a ys ≡ ys = take-append-drop a ys in
    let e4 : take p xs ++ ys ≡ xs = take-append-drop p xs in
    cc

module _ (n : ℕ) (b : List ℕ) (h : Passed (Action n) b) where
  pub action_rising : (j : ℕ) → j < length b → 4 < j → j ≢ 4 + get_or b 1 0 → j ≢ 4 + get_or b 1 0 + get_or b 2 0 → get_or b (j - 1) 0 < get_or b j 0
  action_rising j l m u v =
      let f : follows (Action n) b j ≡ true = and_from _ _ (lt-ltb 4 j m) (and_from _ _ (ap not (ne_eqb _ _ u)) (ap not (ne_eqb _ _ v))) in
      leb-false _ _ (sym (ap (λ t. t && leb (get_or b j 0) (get_or b (j - 1) 0)) f) ∙ h.rising j l)

  pub action_under : (k : ℕ) → k < length b → 4 ≤ k → get_or b k 0 < n
  action_under k l m =
      let q = (or_parts (leb 1 k && (leb k 3 && ltb 16 (get_or b k 0))) (leb 4 k && leb n (get_or b k 0)) (h.bound k l)).1 in
      leb-false _ _ (sym (ap (λ t. t && leb n (get_or b k 0)) (le-leb 4 k m)) ∙ q)

  pub action_count : (k : ℕ) → k < length b → 1 ≤ k → k ≤ 3 → get_or b k 0 ≤ 16
  action_count k l i m =
      let q = (or_parts (leb 1 k && (leb k 3 && ltb 16 (get_or b k 0))) (leb 4 k && leb n (get_or b k 0)) (h.bound k l)).0 in grind (arith, nat_tests)

pub last_of : (facts : List ℕ) (count i : ℕ) (b : List ℕ) (from : ℕ) → count ≡ i → 0 < count → take count facts ≡ take i (drop from b) → get_or facts (count - 1) 0 ≡ get_or b (from + (i - 1)) 0
last_of facts count i b from e p h =
    let l : count - 1 < count = omega arith in
    let m : i - 1 < i = omega arith in
    sym (get_or-take count facts (count - 1) 0 l) ∙ ap (λ xs. get_or xs (count - 1) 0) h ∙ ap (λ k. get_or (take i (drop from b)) (k - 1) 0) e ∙ get_or-take i (drop from b) (i - 1) 0 m ∙ get_or-drop from b (i - 1) 0

module _ (n : ℕ) where
  -- an accepted action frame, cut into its lists
  pub action_is : (b : List ℕ) → Passed (Action n) b → (pre add del : List ℕ)
      → pre ≡ take (get_or b 1 0) (drop 4 b) → add ≡ take (get_or b 2 0) (drop (4 + get_or b 1 0) b) → del ≡ take (get_or b 3 0) (drop (4 + get_or b 1 0 + get_or b 2 0) b)
      → b ≡ action_frame (record { pre = pre; add = add; del = del })
  action_is [] h pre add del e f g = absurd (omega (arith, (action_whole n [] h.size).0))
  action_is (x0 ∷ []) h pre add del e f g = absurd (omega (arith, (action_whole n (x0 ∷ []) h.size).0))
  action_is (x0 ∷ x1 ∷ []) h pre add del e f g = absurd (omega (arith, (action_whole n (x0 ∷ x1 ∷ []) h.size).0))
  action_is (x0 ∷ x1 ∷ x2 ∷ []) h pre add del e f g = absurd (omega (arith, (action_whole n (x0 ∷ x1 ∷ x2 ∷ []) h.size).0))
  action_is (x0 ∷ x1 ∷ x2 ∷ x3 ∷ xs) h pre add del e f g =
      let b = x0 ∷ x1 ∷ x2 ∷ x3 ∷ xs in
      let kind : x0 ≡ 2 = eqb-true x0 2 (not-false _ h.kind) in
      let size : length xs ≡ x1 + x2 + x3 = omega (arith, (action_whole n b h.size).1) in
      let q : 4 + x1 + x2 ≡ 4 + (x1 + x2) = omega arith in
      let f' : add ≡ take x2 (drop x1 xs) = f ∙ ap (take x2) (sym (drop-drop x1 4 b)) in
      let g' : del ≡ take x3 (drop (x1 + x2) xs) = g ∙ ap (λ k. take x3 (drop k b)) q ∙ ap (take x3) (sym (drop-drop (x1 + x2) 4 b)) in
      let t = three xs x1 x2 x3 size in
      let l1 : length pre ≡ x1 = ap length e ∙ length-take-le x1 xs (omega arith) in
      let l2 : length add ≡ x2 = ap length f' ∙ length-take-le x2 (drop x1 xs) (omega (arith, length-drop x1 xs)) in
      let l3 : length del ≡ x3 = ap length g' ∙ length-take-le x3 (drop (x1 + x2) xs) (omega (arith, length-drop (x1 + x2) xs)) in
      cc

  pub part_rising : (b : List ℕ) → Passed (Action n) b → (from count : ℕ) → 4 ≤ from → from + count ≤ length b
      → ((j : ℕ) → from < j → j < from + count → (j ≢ 4 + get_or b 1 0) × (j ≢ 4 + get_or b 1 0 + get_or b 2 0))
      → (k : ℕ) → k + 1 < count → get_or b (from + k) 0 < get_or b (from + k + 1) 0
  part_rising b h from count l m apart k i =
      let a = apart (from + k + 1) (omega arith) (omega arith) in
      let e : from + k + 1 - 1 ≡ from + k = omega arith in
      subst (λ j. get_or b j 0 < get_or b (from + k + 1) 0) e (action_rising n b h (from + k + 1) (omega arith) (omega arith) a.0 a.1)

  pub part_under : (b : List ℕ) → Passed (Action n) b → (from count : ℕ) → 4 ≤ from → from + count ≤ length b → under n (take count (drop from b)) ≡ true
  part_under b h from count l m = under_part n b from count m (λ k i j. action_under n b h k (omega arith) (omega arith))

-- the tests of a goal's and of a start's frame
listing : (b : List ℕ) → (leb 2 (length b) && eqb (length b) (2 + get_or b 1 0)) ≡ true
    → ((k : ℕ) → k < length b → (ltb 2 k && leb (get_or b k 0) (get_or b (k - 1) 0)) ≡ false) → Listing b
listing b size rising =
    let p = and_parts (leb 2 (length b)) (eqb (length b) (2 + get_or b 1 0)) size in
    record {
      some = leb-true _ _ p.0;
      size = eqb-true _ _ p.1;
      rising = λ k l m. leb-false _ _ (sym (ap (λ t. t && leb (get_or b k 0) (get_or b (k - 1) 0)) (lt-ltb 2 k l)) ∙ rising k m);
    }

pub list_goal : (n : ℕ) (b : List ℕ) → Passed (Goal n) b → Listing b
list_goal n b h = listing b h.size h.rising

pub list_start : (n : ℕ) (b : List ℕ) → Passed (Start n) b → Listing b
list_start n b h = listing b h.size h.rising

-- every byte from the second on is below n
pub rest_under : (n : ℕ) (b : List ℕ) → 2 ≤ length b → ((k : ℕ) → k < length b → (leb 2 k && leb n (get_or b k 0)) ≡ false) → under n (drop 2 b) ≡ true
rest_under n b some h =
    ap (under n) (sym (take_all (length b - 2) (drop 2 b) (omega (arith, length-drop 2 b))))
    ∙ under_part n b 2 (length b - 2) (omega arith) (λ k l m. leb-false _ _ (sym (ap (λ t. t && leb n (get_or b k 0)) (le-leb 2 k l)) ∙ h k (omega arith)))

pub list_is : (kind : ℕ) (b xs : List ℕ) → Listing b → get_or b 0 0 ≡ kind → xs ≡ drop 2 b → b ≡ kind ∷ length xs ∷ xs
list_is kind [] xs h e f = absurd (omega (arith, h.some))
list_is kind (x0 ∷ []) xs h e f = absurd (omega (arith, h.some))
list_is kind (x0 ∷ x1 ∷ ys) xs h e f =
    let l : length ys ≡ x1 = omega (arith, h.size) in
    let m : length xs ≡ length ys = ap length f in
    cc

pub head_size : (b : List ℕ) → Passed Head b → length b ≡ 4
head_size b h = eqb-true _ _ h.size

pub head_is : (b : List ℕ) → Passed Head b → get_or b 2 0 < 256 → get_or b 3 0 < 256
    → (b ≡ head_frame (get_or b 1 0) (get_or b 2 0 * 256 + get_or b 3 0)) × (0 < get_or b 1 0) × (get_or b 2 0 * 256 + get_or b 3 0 ≤ 512)
head_is [] h l m = absurd (omega (arith, head_size [] h))
head_is (x0 ∷ []) h l m = absurd (omega (arith, head_size (x0 ∷ []) h))
head_is (x0 ∷ x1 ∷ []) h l m = absurd (omega (arith, head_size (x0 ∷ x1 ∷ []) h))
head_is (x0 ∷ x1 ∷ x2 ∷ []) h l m = absurd (omega (arith, head_size (x0 ∷ x1 ∷ x2 ∷ []) h))
head_is (x0 ∷ x1 ∷ x2 ∷ x3 ∷ x4 ∷ xs) h l m = absurd (omega (arith, head_size (x0 ∷ x1 ∷ x2 ∷ x3 ∷ x4 ∷ xs) h))
head_is (x0 ∷ x1 ∷ x2 ∷ x3 ∷ []) h l m =
    let kind : x0 ≡ 1 = eqb-true x0 1 (not-false _ h.kind) in
    let high : (x2 * 256 + x3) / 256 ≡ x2 = omega arith in
    let low : (x2 * 256 + x3) % 256 ≡ x3 = omega arith in
    let p = h.bound 1 (omega arith) in
    let q = h.bound 2 (omega arith) in
    (cc, grind (arith, nat_tests), grind (arith, nat_tests))

pub end_is : (b : List ℕ) → refusal End b ≡ None → b ≡ 5 ∷ []
end_is b r = shape b (eqb-true _ _ (not-false _ (passed End b r).kind)) (eqb-true _ _ (passed End b r).size)
  where
    shape : (b : List ℕ) → get_or b 0 0 ≡ 5 → length b ≡ 1 → b ≡ 5 ∷ []
    shape [] h l = absurd (omega arith)
    shape (x ∷ []) h l = ap (λ y. y ∷ []) h
    shape (x ∷ y ∷ ys) h l = absurd (omega arith)
