-- Each frame of a lawful problem passes every test.
use Rattle.std.proofs.Common.{◌≡◌, ℕ, zero, suc, ◌+◌, ◌-◌, ◌*◌, ◌/◌, ◌%◌, ◌<◌, ◌≤◌, true, false, not, ◌&&◌, eqb, ltb, leb, ◌≢◌, List, ◌∷◌, ◌++◌, length, get_or, None, refl, ap, ⊎_elim, arith, length-append}
use Rattle.std.proofs.lemmas.Bool.{cases_lt, cases_Bool, and_parts, and_from, and_left, and_right, or_from, le-ltb, lt-leb, le-leb, eq-eqb, eqb-false, not-true, ne_eqb}
use Rattle.std.proofs.lemmas.List.{get_or_append_left}
use Rattle.model.specs.Strips.{Action as Act, Listed, Fits}
use Rattle.textspec.specs.declared.due.Due.{Due}
use Rattle.textspec.specs.declared.due.Due.TheVariants.{Head, Action, Goal, Start}
use Rattle.textspec.specs.Hex.{Sized}
use Rattle.textspec.specs.Frames.{head_frame, action_frame, goal_frame, start_frame, end_frame}
use Rattle.textspec.specs.Refusals.{not_due, out_of_bounds, follows, not_rising, whole, refusal}
use Rattle.textspec.proofs.Firsts.{first_none}
use Rattle.textspec.proofs.Refused.{accepted}
use Rattle.textspec.proofs.Rises.{rises, known, below_append, small_past, right}

-- the tests at each byte
by_bytes : (due : Due) (b : List ℕ) → not_due due b ≡ false → whole due b ≡ true
    → ((k : ℕ) → k < length b → out_of_bounds due b k ≡ false) → ((k : ℕ) → k < length b → not_rising due b k ≡ false) → refusal due b ≡ None
by_bytes due b d w f g = accepted due b d w (first_none (out_of_bounds due b) (length b) f) (first_none (not_rising due b) (length b) g)

-- two rising lists in a row rise but where the second begins
rise_append : (xs ys : List ℕ) (k : ℕ) → (k + 1 < length xs → get_or xs k 0 < get_or xs (k + 1) 0)
    → ((j : ℕ) → k ≡ length xs + j → j + 1 < length ys → get_or ys j 0 < get_or ys (j + 1) 0)
    → k + 1 < length (xs ++ ys) → k + 1 ≢ length xs → get_or (xs ++ ys) k 0 < get_or (xs ++ ys) (k + 1) 0
rise_append xs ys k f g h ne =
    ⊎_elim
    (λ l. let a = get_or_append_left xs ys 0 k (omega arith) in let b = get_or_append_left xs ys 0 (k + 1) l in omega (arith, f l))
    (λ l.
    let j = k - length xs in
    let e : k ≡ length xs + j = omega arith in
    let a = right xs ys k j e in
    let b = right xs ys (k + 1) (j + 1) (omega arith) in
    omega (arith, g j e (omega (arith, length-append xs ys))))
    (cases_lt (k + 1) (length xs))

module _ (n : ℕ) (pre add del : List ℕ) (p : Listed n 16 pre) (q : Listed n 16 add) (r : Listed n 16 del) where
  abbrev body : List ℕ
  body = pre ++ (add ++ del)

  abbrev frame : List ℕ
  frame = 2 ∷ length pre ∷ length add ∷ length del ∷ body

  size : length body ≡ length pre + (length add + length del)
  size = omega (arith, length-append pre (add ++ del), length-append add del)

  body_below : (k : ℕ) → k < length body → get_or body k 0 < n
  body_below = below_append n pre (add ++ del) (known n pre p.known) (below_append n add del (known n add q.known) (known n del r.known))

  body_rises : (k : ℕ) → k + 1 < length body → k + 1 ≢ length pre → k + 1 ≢ length pre + length add → get_or body k 0 < get_or body (k + 1) 0
  body_rises k h u v =
      rise_append pre (add ++ del) k (rises pre p.rising k)
      (λ j e l. rise_append add del j (rises add q.rising j) (λ i f m. rises del r.rising i m) l (λ w. v (omega arith)))
      h u

  bounds : (k : ℕ) → k < length frame → out_of_bounds (Action n) frame k ≡ false
  bounds zero h = refl
  bounds (suc zero) h = or_from (ltb 16 (length pre)) false (le-ltb 16 (length pre) p.few) refl
  bounds (suc (suc zero)) h = or_from (ltb 16 (length add)) false (le-ltb 16 (length add) q.few) refl
  bounds (suc (suc (suc zero))) h = or_from (ltb 16 (length del)) false (le-ltb 16 (length del) r.few) refl
  bounds (suc (suc (suc (suc j)))) h =
      let k = suc (suc (suc (suc j))) in
      or_from _ _ (and_right (leb 1 k) _ (and_left (leb k 3) (ltb 16 (get_or body j 0)) (lt-leb k 3 (omega arith))))
      (and_right (leb 4 k) (leb n (get_or body j 0)) (lt-leb n (get_or body j 0) (body_below j (omega arith))))

  rising : (k : ℕ) → k < length frame → not_rising (Action n) frame k ≡ false
  rising zero h = refl
  rising (suc zero) h = refl
  rising (suc (suc zero)) h = refl
  rising (suc (suc (suc zero))) h = refl
  rising (suc (suc (suc (suc zero)))) h = refl
  rising (suc (suc (suc (suc (suc j))))) h =
      let k = suc (suc (suc (suc (suc j)))) in
      ⊎_elim
      (λ t.
      let a = (and_parts (ltb 4 k) _ t).1 in
      let b = and_parts (not (eqb k (4 + length pre))) (not (eqb k (4 + length pre + length add))) a in
      let u = eqb-false k (4 + length pre) (not-true _ b.0) in
      let v = eqb-false k (4 + length pre + length add) (not-true _ b.1) in
      let e : k - 1 ≡ suc (suc (suc (suc j))) = omega arith in
      let f : suc j ≡ j + 1 = omega arith in
      let c : get_or frame (k - 1) 0 ≡ get_or body j 0 = ap (λ i. get_or frame i 0) e in
      let d : get_or body (suc j) 0 ≡ get_or body (j + 1) 0 = ap (λ i. get_or body i 0) f in
      let l = body_rises j (omega arith) (λ w. u (omega arith)) (λ w. v (omega arith)) in
      and_right (follows (Action n) frame k) (leb (get_or body (suc j) 0) (get_or frame (k - 1) 0)) (lt-leb _ _ (omega arith)))
      (λ t. and_left (follows (Action n) frame k) _ t)
      (cases_Bool (follows (Action n) frame k))

  pub lists_pass : refusal (Action n) frame ≡ None
  lists_pass =
      by_bytes (Action n) frame refl
      (and_from (leb 4 (length frame)) (eqb (length frame) (4 + length pre + length add + length del)) (le-leb _ _ (omega arith)) (eq-eqb _ _ (omega (arith, size))))
      bounds rising

  pub lists_sized : n ≤ 255 → Sized frame
  lists_sized few =
      let a = p.few in let b = q.few in let c = r.few in
      record {
        some = omega arith;
        few = omega (arith, size);
        small = small_past 256 frame (omega arith) (λ k h. all k h);
      }
    where
      all : (k : ℕ) → k < length frame → get_or frame k 0 < 256
      all zero h = omega arith
      all (suc zero) h = omega (arith, p.few)
      all (suc (suc zero)) h = omega (arith, q.few)
      all (suc (suc (suc zero))) h = omega (arith, r.few)
      all (suc (suc (suc (suc j)))) h = omega (arith, body_below j (omega arith), few)

pub action_pass : (n : ℕ) (a : Act) → Fits n a → refusal (Action n) (action_frame a) ≡ None
action_pass n a h = lists_pass n a.pre a.add a.del h.pre h.add h.del

pub action_sized : (n : ℕ) (a : Act) → Fits n a → n ≤ 255 → Sized (action_frame a)
action_sized n a h = lists_sized n a.pre a.add a.del h.pre h.add h.del

module _ (n kind : ℕ) (l : List ℕ) (p : Listed n 255 l) where
  abbrev listing : List ℕ
  listing = kind ∷ length l ∷ l

  list_bounds : (k : ℕ) → k < length listing → (leb 2 k && leb n (get_or listing k 0)) ≡ false
  list_bounds zero h = refl
  list_bounds (suc zero) h = refl
  list_bounds (suc (suc j)) h = and_right (leb 2 (suc (suc j))) (leb n (get_or l j 0)) (lt-leb n (get_or l j 0) (known n l p.known j (omega arith)))

  list_rising : (k : ℕ) → k < length listing → (ltb 2 k && leb (get_or listing k 0) (get_or listing (k - 1) 0)) ≡ false
  list_rising zero h = refl
  list_rising (suc zero) h = refl
  list_rising (suc (suc zero)) h = refl
  list_rising (suc (suc (suc j))) h =
      let k = suc (suc (suc j)) in
      let e : k - 1 ≡ suc (suc j) = omega arith in
      let f : suc j ≡ j + 1 = omega arith in
      let c : get_or listing (k - 1) 0 ≡ get_or l j 0 = ap (λ i. get_or listing i 0) e in
      let d : get_or l (suc j) 0 ≡ get_or l (j + 1) 0 = ap (λ i. get_or l i 0) f in
      let m = rises l p.rising j (omega arith) in
      and_right (ltb 2 k) (leb (get_or l (suc j) 0) (get_or listing (k - 1) 0)) (lt-leb _ _ (omega arith))

  list_whole : (leb 2 (length listing) && eqb (length listing) (2 + length l)) ≡ true
  list_whole = and_from (leb 2 (length listing)) (eqb (length listing) (2 + length l)) (le-leb _ _ (omega arith)) (eq-eqb _ _ (omega arith))

  list_sized : n ≤ 255 → kind < 256 → Sized listing
  list_sized few low =
      record { some = omega arith; few = omega (arith, p.few); small = small_past 256 listing (omega arith) all }
    where
      all : (k : ℕ) → k < length listing → get_or listing k 0 < 256
      all zero h = low
      all (suc zero) h = omega (arith, p.few)
      all (suc (suc j)) h = omega (arith, known n l p.known j (omega arith), few)

pub goal_pass : (n : ℕ) (l : List ℕ) → Listed n 255 l → refusal (Goal n) (goal_frame l) ≡ None
goal_pass n l p = by_bytes (Goal n) (goal_frame l) refl (list_whole n 3 l p) (list_bounds n 3 l p) (list_rising n 3 l p)

pub start_pass : (n : ℕ) (l : List ℕ) → Listed n 255 l → refusal (Start n) (start_frame l) ≡ None
start_pass n l p = by_bytes (Start n) (start_frame l) refl (list_whole n 4 l p) (list_bounds n 4 l p) (list_rising n 4 l p)

pub goal_sized : (n : ℕ) (l : List ℕ) → Listed n 255 l → n ≤ 255 → Sized (goal_frame l)
goal_sized n l p few = list_sized n 3 l p few (omega arith)

pub start_sized : (n : ℕ) (l : List ℕ) → Listed n 255 l → n ≤ 255 → Sized (start_frame l)
start_sized n l p few = list_sized n 4 l p few (omega arith)

pub head_pass : (n w : ℕ) → 1 ≤ n → w ≤ 512 → refusal Head (head_frame n w) ≡ None
head_pass n w some few =
    by_bytes Head (head_frame n w) refl refl
    (λ k h. or_from _ _ (and_right (eqb k 1) (eqb n 0) (ne_eqb n 0 (λ e. omega arith)))
    (and_right (eqb k 2) (ltb 512 (256 * (w / 256) + w % 256)) (le-ltb 512 (256 * (w / 256) + w % 256) (omega arith))))
    (λ k h. refl)

pub head_sized : (n w : ℕ) → n ≤ 255 → w ≤ 512 → Sized (head_frame n w)
head_sized n w less few =
    record { some = omega arith; few = omega arith; small = small_past 256 (head_frame n w) (omega arith) all }
  where
    all : (k : ℕ) → k < length (head_frame n w) → get_or (head_frame n w) k 0 < 256
    all zero h = omega arith
    all (suc zero) h = omega arith
    all (suc (suc zero)) h = omega arith
    all (suc (suc (suc zero))) h = omega arith
    all (suc (suc (suc (suc j)))) h = absurd (omega arith)

pub end_sized : Sized end_frame
end_sized = record { some = omega arith; few = omega arith; small = small_past 256 end_frame (omega arith) all }
  where
    all : (k : ℕ) → k < length end_frame → get_or end_frame k 0 < 256
    all zero h = omega arith
    all (suc j) h = absurd (omega arith)
