-- Look-ups along links. Assumes nothing.
use Rattle.std.proofs.Common.{◌≡◌, ℕ, ◌+◌, ◌<◌, Bool, true, false, cond, ◌⊎◌, List, length, get_or, set, Some, None, Option, sym, refl, ap, ◌∙◌, subst, ⊎_elim, arith, length-set, get_or-set_other, get_or-set_same}
use native.Mathlib.Decide.{ℕ_discrete}
use Rattle.std.proofs.lemmas.Option.{slice_get-get_or}
use Rattle.model.specs.Strips.{State as Facts}
use Rattle.strips.specs.Standing.{standing}
use Rattle.rows.specs.declared.row.Row.{Row}
use Rattle.rows.specs.Rows.{blank, bare}
use Rattle.rows.specs.Lookups.{link, state_at, next, Way, here, down, Later, Tree, Seated, Missing, Leaf, linked, Alike, Numbers, Written}

-- what holds of j, and of each other, holds of each
pub split : (j : ℕ) (P : ℕ → Type 0) → P j → ((k : ℕ) → (k ≡ j → ⊥) → P k) → (k : ℕ) → P k
split j P at there k = elim (ℕ_discrete k j) [ yes e ↦ subst P (sym e) at | no ne ↦ there k ne ]

-- a read within the rows, whatever its default
pub read : (rows : List Row) (i : ℕ) (x : Row) → i < length rows → x ≡ get_or rows i x → x ≡ get_or rows i blank
read rows i x lt e = let h = slice_get-get_or rows i x lt in let k = slice_get-get_or rows i blank lt in cc

-- a link is not both there and not
no_link : {o : Option ℕ} {n : ℕ} → o ≡ None → o ≡ Some n → ⊥
no_link e f = let h : None ≡ Some _ = sym e ∙ f in cc

pub snoc : {rows : List Row} {s : Facts} {a i j : ℕ} → Way rows s a i → (state_at rows i ≡ s → ⊥) → next rows s i ≡ Some j → Way rows s a j
snoc {j = j} (here i) ne e = down i j j ne e (here j)
snoc {j = j} (down a b i na f on) ne e = down a b j na f (snoc on ne e)

-- a look-up that ends without the state shows that no row has it
pub meets : {rows : List Row} {s : Facts} {a i k : ℕ} → Way rows s a i → Way rows s a k → (state_at rows i ≡ s → ⊥) → next rows s i ≡ None → state_at rows k ≡ s → ⊥
meets (here i) (here k) ne end is = ne is
meets (here i) (down a j k na e on) ne end is = no_link end e
meets (down a j i na e on) (here k) ne end is = na is
meets {rows} {s} {k = k} (down a j i na e on) (down b l m nb f more) ne end is =
    let same : l ≡ j = cc in meets on (subst (λ n. Way rows s n k) same more) ne end is

link_in : (used i : ℕ) (w : Row) (s : Facts) → Later used i w.off → Later used i w.on → Later used i (link w s)
unfolding link
link_in used i w s l r = elim (s w.fact) as (λ b. Later used i (cond b w.on w.off)) [ true ↦ r | false ↦ l ]

later_next : (rows : List Row) (used : ℕ) → Tree rows used → (s : Facts) (i : ℕ) → i < used → Later used i (next rows s i)
later_next rows used t s i lt = link_in used i (get_or rows i blank) s (t.off i lt) (t.on i lt)

pub next_later : (rows : List Row) (used : ℕ) → Tree rows used → (s : Facts) (i j : ℕ) → i < used → next rows s i ≡ Some j → (i < j) × (j < used)
next_later rows used t s i j lt e = let h : Later used i (Some j) = subst (Later used i) e (later_next rows used t s i lt) in h

-- a look-up that ends at row i without the state
pub missing : (rows : List Row) (used : ℕ) → Tree rows used → (s : Facts) (i : ℕ) → i < used → Way rows s 0 i → (state_at rows i ≡ s → ⊥) → next rows s i ≡ None → Missing rows used s i
missing rows used t s i lt way other free = record {
  within = lt;
  none = λ k kl is. meets way (subst (λ u. Way rows u 0 k) is (t.found k kl)) other free is;
  seated = record { way = way; other = other; free = free };
}

-- what leaves states and used links alone leaves look-ups alone
way_map : (rows after : List Row) (used : ℕ) (s : Facts) → ((i : ℕ) → i < used → state_at after i ≡ state_at rows i) → ((i j : ℕ) → i < used → next rows s i ≡ Some j → next after s i ≡ Some j) → ((i j : ℕ) → i < used → next rows s i ≡ Some j → j < used) → {a k : ℕ} → a < used → Way rows s a k → Way after s a k
way_map rows after used s same links within lt (here i) = here i
way_map rows after used s same links within lt (down i j k ne e on) =
    down i j k (λ q. ne (sym (same i lt) ∙ q)) (links i j lt e) (way_map rows after used s same links within (within i j lt e) on)

later_more : (used i : ℕ) (o : Option ℕ) → Later used i o → Later (used + 1) i o
later_more used i None h = tt
later_more used i (Some n) h = (h.0, omega (arith, h.1))

link_new : (w : Row) (s : Facts) (f n : ℕ) → link (linked w s f n) s ≡ Some n
unfolding link
link_new w s f n = elim (s f) as (λ b. cond b (cond b (Some n) w.on) (cond b w.off (Some n)) ≡ Some n) [ true ↦ refl | false ↦ refl ]

-- a link that is used is on the other side, for which the fact is as before
link_kept : (w : Row) (s u : Facts) (f n j : ℕ) → (f ≡ w.fact) ⊎ Leaf w → link w s ≡ None → link w u ≡ Some j → link (linked w s f n) u ≡ Some j
unfolding link
link_kept w s u f n j how free used = ⊎_elim same (λ l. absurd (none (u w.fact) l used)) how where
  none : (b : Bool) → Leaf w → cond b w.on w.off ≡ Some j → ⊥
  none true l e = no_link l.1 e
  none false l e = no_link l.0 e

  go : (c d : Bool) → cond c w.on w.off ≡ None → cond d w.on w.off ≡ Some j → cond d (cond c (Some n) w.on) (cond c w.off (Some n)) ≡ Some j
  go true true z e = absurd (no_link z e)
  go true false z e = e
  go false true z e = e
  go false false z e = absurd (no_link z e)

  same : f ≡ w.fact → link (linked w s f n) u ≡ Some j
  same e =
      let P : ℕ → Type 0 = λ g. cond (u g) (cond (s g) (Some n) w.on) (cond (s g) w.off (Some n)) ≡ Some j in
      subst P (sym e) (go (s w.fact) (u w.fact) free used)

side : (used i : ℕ) (b : Bool) (x y : Option ℕ) → Later used i x → Later used i y → Later used i (cond b x y)
side used i true x y l r = l
side used i false x y l r = r

-- a row past those in use is written, and linked from row `under`
module _ (rows : List Row) (under used : ℕ) (row : Row) (f : ℕ) (nums : Numbers rows under used) where
  abbrev s : Facts
  s = standing row.state

  abbrev w : Row
  w = get_or rows under blank

  abbrev mid : List Row
  mid = set rows used (bare row)

  abbrev pub after : List Row
  after = set mid under (linked w s f used)

  inside : under < length mid
  inside = simp length-set (omega (arith, nums.earlier, nums.within))

  at_under : get_or after under blank ≡ linked w s f used
  at_under = get_or-set_same mid under (linked w s f used) blank inside

  at_new : get_or after used blank ≡ bare row
  at_new = get_or-set_other mid under used (linked w s f used) blank (λ e. omega (arith, nums.earlier)) ∙ get_or-set_same rows used (bare row) blank nums.within

  elsewhere : (k : ℕ) → (k ≡ under → ⊥) → (k ≡ used → ⊥) → get_or after k blank ≡ get_or rows k blank
  elsewhere k nu nn = get_or-set_other mid under k (linked w s f used) blank nu ∙ get_or-set_other rows used k (bare row) blank nn

  -- what holds of the row linked from, and of each other row, holds of each row in use before
  each : (P : ℕ → Row → Type 0) → P under (linked w s f used) → ((k : ℕ) → (k ≡ under → ⊥) → k < used → P k (get_or rows k blank)) → (k : ℕ) → k < used → P k (get_or after k blank)
  each P at there = split under (λ k. k < used → P k (get_or after k blank)) (λ _. subst (P under) (sym at_under) at) (λ k ne kl. subst (P k) (sym (elsewhere k ne (λ e. omega arith))) (there k ne kl))

  same : (k : ℕ) → k < used → state_at after k ≡ state_at rows k
  same = each (λ k x. standing x.state ≡ state_at rows k) refl (λ k ne kl. refl)

  pub hung_alike : Alike (set rows used row) after
  hung_alike = record {
    long = simp length-set;
    same = split under (λ k. bare (get_or after k blank) ≡ bare (get_or (set rows used row) k blank))
        (ap bare at_under ∙ ap bare (sym (get_or-set_other rows used under row blank (λ e. omega (arith, nums.earlier)))))
        (λ k ne. split used (λ k. (k ≡ under → ⊥) → bare (get_or after k blank) ≡ bare (get_or (set rows used row) k blank))
        (λ _. ap bare at_new ∙ ap bare (sym (get_or-set_same rows used row blank nums.within)))
        (λ k nn nu. ap bare (elsewhere k nu nn) ∙ ap bare (sym (get_or-set_other rows used k row blank nn))) k ne);
  }

  module _ (how : (f ≡ w.fact) ⊎ Leaf w) (t : Tree rows used) (h : Seated rows s under) where
    links : (u : Facts) (i j : ℕ) → i < used → next rows u i ≡ Some j → next after u i ≡ Some j
    links u i j lt = each (λ i x. next rows u i ≡ Some j → link x u ≡ Some j) (link_kept w s u f used j how h.free) (λ k ne kl e. e) i lt

    kept : (u : Facts) {k : ℕ} → Way rows u 0 k → Way after u 0 k
    kept u = way_map rows after used u same (links u) (λ i j lt e. (next_later rows used t u i j lt e).1) t.some

    to_new : next after s under ≡ Some used
    to_new = ap (λ z. link z s) at_under ∙ link_new w s f used

    under_in : under < used
    under_in = nums.earlier

    new_way : Way after s 0 used
    new_way = snoc (kept s h.way) (λ q. h.other (sym (same under under_in) ∙ q)) to_new

    -- of a row in use, or of the new one
    more : (P : ℕ → Row → Type 0) → P under (linked w s f used) → P used (bare row) → ((k : ℕ) → (k ≡ under → ⊥) → k < used → P k (get_or rows k blank)) → (k : ℕ) → k < used + 1 → P k (get_or after k blank)
    more P at new there = split used (λ k. k < used + 1 → P k (get_or after k blank)) (λ _. subst (P used) (sym at_new) new) (λ k ne kl. each P at there k (omega arith))

    pub hung_tree : Tree after (used + 1)
    hung_tree = record {
      some = omega arith;
      fits = simp length-set (omega (arith, nums.within));
      found = split used (λ k. k < used + 1 → Way after (state_at after k) 0 k)
          (λ _. subst (λ u. Way after u 0 used) (sym (ap (λ z. standing z.state) at_new)) new_way)
          (λ k ne kl. let lt : k < used = omega arith in subst (λ u. Way after u 0 k) (sym (same k lt)) (kept (state_at rows k) (t.found k lt)));
      off = more (λ k x. Later (used + 1) k x.off)
          (side (used + 1) under (s f) w.off (Some used) (later_more used under w.off (t.off under under_in)) (under_in, omega arith))
          tt
          (λ k ne kl. later_more used k _ (t.off k kl));
      on = more (λ k x. Later (used + 1) k x.on)
          (side (used + 1) under (s f) (Some used) w.on (under_in, omega arith) (later_more used under w.on (t.on under under_in)))
          tt
          (λ k ne kl. later_more used k _ (t.on k kl));
    }

  pub hung_written : (f ≡ w.fact) ⊎ Leaf w → Written rows under used row after
  hung_written how = record {
    alike = hung_alike;
    rest = λ k lt. elsewhere k (λ e. omega (arith, nums.earlier)) (λ e. omega arith);
    tree = hung_tree how;
  }

-- what leaves the states and links of the rows in use leaves the tree
module _ (rows after : List Row) (used : ℕ) (long : length after ≡ length rows) (t : Tree rows used) (same : (k : ℕ) → k < used → (state_at after k ≡ state_at rows k) × ((get_or after k blank).fact ≡ (get_or rows k blank).fact) × ((get_or after k blank).off ≡ (get_or rows k blank).off) × ((get_or after k blank).on ≡ (get_or rows k blank).on)) where
  link_same : (u : Facts) (k : ℕ) → k < used → next after u k ≡ next rows u k
  unfolding link
  link_same u k kl = let h = same k kl in cc (h.1, h.2, h.3)

  way_same : (u : Facts) {k : ℕ} → Way rows u 0 k → Way after u 0 k
  way_same u = way_map rows after used u (λ i il. (same i il).0) (λ i j il e. link_same u i il ∙ e) (λ i j il e. (next_later rows used t u i j il e).1) t.some

  pub tree_same : Tree after used
  tree_same = record {
    some = t.some;
    fits = omega (arith, t.fits);
    found = λ k kl. subst (λ u. Way after u 0 k) (sym (same k kl).0) (way_same (state_at rows k) (t.found k kl));
    off = λ k kl. subst (Later used k) (sym (same k kl).2) (t.off k kl);
    on = λ k kl. subst (Later used k) (sym (same k kl).3) (t.on k kl);
  }

-- a write that leaves the state and the links leaves the tree
pub tree_set : (rows : List Row) (used j : ℕ) (x : Row) → j < length rows → standing x.state ≡ state_at rows j → x.fact ≡ (get_or rows j blank).fact → x.off ≡ (get_or rows j blank).off → x.on ≡ (get_or rows j blank).on → Tree rows used → Tree (set rows j x) used
tree_set rows used j x lt s f l r t =
    tree_same rows (set rows j x) used (length-set rows j x) t
    (λ k _. split j (λ k. (state_at (set rows j x) k ≡ state_at rows k) × ((get_or (set rows j x) k blank).fact ≡ (get_or rows k blank).fact) × ((get_or (set rows j x) k blank).off ≡ (get_or rows k blank).off) × ((get_or (set rows j x) k blank).on ≡ (get_or rows k blank).on))
    (let e = get_or-set_same rows j x blank lt in (ap (λ z. standing z.state) e ∙ s, ap (λ z. z.fact) e ∙ f, ap (λ z. z.off) e ∙ l, ap (λ z. z.on) e ∙ r))
    (λ k ne. let e = get_or-set_other rows j k x blank ne in (ap (λ z. standing z.state) e, ap (λ z. z.fact) e, ap (λ z. z.off) e, ap (λ z. z.on) e)) k)

-- the first row alone
pub tree_first : (rows : List Row) → 0 < length rows → Leaf (get_or rows 0 blank) → Tree rows 1
tree_first rows fits w = record {
  some = omega arith;
  fits = fits;
  found = λ k kl. let z : 0 ≡ k = omega arith in subst (λ n. Way rows (state_at rows k) 0 n) z (here 0);
  off = λ k kl. let z : k ≡ 0 = omega arith in subst (Later 1 k) (sym (ap (λ n. (get_or rows n blank).off) z ∙ w.0)) tt;
  on = λ k kl. let z : k ≡ 0 = omega arith in subst (Later 1 k) (sym (ap (λ n. (get_or rows n blank).on) z ∙ w.1)) tt;
}
