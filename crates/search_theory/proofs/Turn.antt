-- What a turn of the search keeps. Assumes nothing.
use mathlib.Core.Path.{◌≡◌, refl, sym, ap, subst, subst₂, ◌∙◌}
use mathlib.Core.Bool.{true, false}
use Prim.Native.Nat.{ℕ, ◌+◌, ◌<◌, ◌≤◌}
use native.Mathlib.Omega.{arith}
use native.Mathlib.Decide.{ℕ_discrete, dec_lt}
use Rattle.figure.specs.Ranks.{top}
use Rattle.model.specs.Strips.{State, Problem, May, step, Goal}
use Rattle.search_theory.specs.Rows.{Entry, Rows, At, Came, Closed, Met, Queued, Shut}
use Rattle.search_theory.specs.Turns.{WithinTurn, marked, Reaches, Begins, NotTaken, NoBetter, Better, New, Ends, Starts}
use Rattle.search_theory.proofs.Walk.{differ}

-- u has the rows of r, none of them in more steps
record Grow (r u : Rows) : Type 0 where
  more : r.used ≤ u.used
  state : (k : ℕ) → k < r.used → (u.row k).state ≡ (r.row k).state
  steps : (k : ℕ) → k < r.used → (u.row k).steps ≤ (r.row k).steps
  opened : (k : ℕ) → k < r.used → (r.row k).opened ≡ true → (u.row k).opened ≡ true

module _ {r u : Rows} (g : Grow r u) where
  at_grow : {s : State} {n j : ℕ} → At r s n j → At u s n j
  at_grow {j = j} at = record { within = omega (arith, g.more, at.within); is = g.state j at.within ∙ at.is; soon = omega (arith, g.steps j at.within, at.soon) }

  came_grow : {p : Problem} {w : Entry} → Came p r w → Came p u w
  came_grow {p} {w} c =
      let same = g.state w.from c.within in
      record {
        within = omega (arith, g.more, c.within);
        less = omega (arith, g.steps w.from c.within, c.less);
        opened = g.opened w.from c.within c.opened;
        may = subst (May p w.action) (sym same) c.may;
        is = ap (step p w.action) same ∙ c.is;
      }

  closed_grow : {p : Problem} {w : Entry} → Closed p r w → Closed p u w
  closed_grow c = record { opened = c.opened; short = c.short; next = λ a may. let (j, at) = c.next a may in (j, at_grow at) }

  met_grow : (p : Problem) (s : State) → Met p r s → Met p u s
  met_grow p s h a may = let (j, at) = h a may in (j, record { within = omega (arith, g.more, at.within); is = g.state j at.within ∙ at.is })

-- row j of u is new or better, and all else is as it was
module _ (p : Problem) (s : State) (r u : Rows) (q v : Queued) (i a j : ℕ) (m : WithinTurn p s r q i a) (may : May p a (r.row i).state) (h : Reaches p r u q v i a j) (g : Grow r u) (inside : j < u.used) (other : i ≡ j → ⊥) (old : (k : ℕ) → k < u.used → (k ≡ j → ⊥) → k < r.used) (low : (r.row i).steps + 1 < u.used) (lacks : (u.row j).opened ≡ true → Goal p (u.row j).state → ⊥) (met : (u.row j).opened ≡ true → Met p u (u.row j).state) (apart : (k l : ℕ) → k < u.used → l < u.used → (u.row k).state ≡ (u.row l).state → k ≡ l) where
  same : u.row i ≡ r.row i
  same = h.only.row i other

  -- what holds of row j, and of each other row, holds of each
  each : (P : ℕ → Type 0) → P j → ((k : ℕ) → k < r.used → (k ≡ j → ⊥) → P k) → (k : ℕ) → k < u.used → P k
  each P here there k lt = elim (ℕ_discrete k j) [ yes e ↦ subst P (sym e) here | no ne ↦ there k (old k lt ne) ne ]

  at_j : At u (step p a (r.row i).state) ((r.row i).steps + 1) j
  at_j = record { within = inside; is = h.state; soon = omega (arith, h.steps) }

  came_j : Came p u (u.row j)
  came_j =
      let e : u.row (u.row j).from ≡ r.row i = ap u.row h.from ∙ same in
      record {
        within = omega (arith, h.from, m.within, g.more);
        less = omega (arith, ap (λ w. w.steps) e, h.steps);
        opened = ap (λ w. w.opened) e ∙ m.opened;
        may = subst₂ (λ b w. May p b w.state) (sym h.action) (sym e) may;
        is = cc (ap (λ w. w.state) e, h.action, h.state);
      }

  next : (b : ℕ) → b < a + 1 → May p b (r.row i).state → (n : ℕ) × At u (step p b (r.row i).state) ((r.row i).steps + 1) n
  next b lt mb =
      elim (ℕ_discrete b a) [
        | yes e ↦ (j, subst (λ c. At u (step p c (r.row i).state) ((r.row i).steps + 1) j) (sym e) at_j)
        | no ne ↦ let (n, at) = m.done b (omega arith) mb in (n, at_grow g at)
      ]

  relaxed : WithinTurn p s u v i (a + 1)
  relaxed = record {
    base = record {
      some = omega (arith, m.base.some, g.more);
      start = g.state 0 m.base.some ∙ m.base.start;
      none = omega (arith, g.steps 0 m.base.some, m.base.none);
      apart = apart;
      came = λ k pos lt. each (λ n. 0 < n → Came p u (u.row n)) (λ _. came_j) (λ n l ne z. subst (Came p u) (sym (h.only.row n ne)) (came_grow g (m.base.came n z l))) k lt pos;
      low = each (λ n. (u.row n).steps < u.used) (omega (arith, h.steps)) (λ n l ne. omega (arith, m.base.low n l, g.steps n l, g.more));
      lacks = each (λ n. (u.row n).opened ≡ true → Goal p (u.row n).state → ⊥) lacks (λ n l ne. subst (λ w. w.opened ≡ true → Goal p w.state → ⊥) (sym (h.only.row n ne)) (m.base.lacks n l));
    };
    within = omega (arith, m.within, g.more);
    opened = ap (λ w. w.opened) same ∙ m.opened;
    short = subst (λ w. Goal p w.state → ⊥) (sym same) m.short;
    done = λ b lt. subst (λ w. May p b w.state → (n : ℕ) × At u (step p b w.state) (w.steps + 1) n) (sym same) (next b lt);
    others = λ k lt ne. each (λ n. (n ≡ i → ⊥) → Shut u v n → Closed p u (u.row n)) (λ _ shut. absurd (h.queued shut)) (λ n l nj ni. subst₂ (λ w b. (b ≡ false) × (w.estimate < top) → Closed p u w) (sym (h.only.row n nj)) (sym (h.only.queued n nj)) (λ shut. closed_grow g (m.others n l ni shut))) k lt ne;
    met = λ k lt ne. each (λ n. (n ≡ i → ⊥) → (u.row n).opened ≡ true → Met p u (u.row n).state) (λ _. met) (λ n l nj ni. subst (λ w. w.opened ≡ true → Met p u w.state) (sym (h.only.row n nj)) (λ o. met_grow g p (r.row n).state (m.met n l ni o))) k lt ne;
  }

-- one action more, with no write
onward : (p : Problem) (s : State) (r : Rows) (q : Queued) (i a : ℕ) → WithinTurn p s r q i a → (May p a (r.row i).state → (j : ℕ) × At r (step p a (r.row i).state) ((r.row i).steps + 1) j) → WithinTurn p s r q i (a + 1)
onward p s r q i a m here = record {
  base = m.base;
  within = m.within;
  opened = m.opened;
  short = m.short;
  done = λ b lt mb. elim (ℕ_discrete b a) [
    | yes e ↦ subst (λ c. May p c (r.row i).state → (j : ℕ) × At r (step p c (r.row i).state) ((r.row i).steps + 1) j) (sym e) here mb
    | no ne ↦ m.done b (omega arith) mb
  ];
  others = m.others;
  met = m.met;
}

pub not_taken : NotTaken
not_taken p s r q i a m never = onward p s r q i a m (λ may. absurd (never may))

pub no_better : NoBetter
no_better p s r q i a j m at = onward p s r q i a m (λ may. (j, at))

-- what holds of j, and of each other, holds of each
pub split : (j : ℕ) (P : ℕ → Type 0) → P j → ((k : ℕ) → (k ≡ j → ⊥) → P k) → (k : ℕ) → P k
split j P here there k = elim (ℕ_discrete k j) [ yes e ↦ subst P (sym e) here | no ne ↦ there k ne ]

pub better : Better
better p s r u q v i a j m may lt is less used opened h =
    let state : (k : ℕ) → (u.row k).state ≡ (r.row k).state =
    split j (λ k. (u.row k).state ≡ (r.row k).state) (h.state ∙ sym is) (λ k ne. ap (λ w. w.state) (h.only.row k ne)) in
    let steps : (k : ℕ) → (u.row k).steps ≤ (r.row k).steps =
    split j (λ k. (u.row k).steps ≤ (r.row k).steps) (omega (arith, h.steps)) (λ k ne. omega (arith, ap (λ w. w.steps) (h.only.row k ne))) in
    let marks : (k : ℕ) → (u.row k).opened ≡ (r.row k).opened =
    split j (λ k. (u.row k).opened ≡ (r.row k).opened) opened (λ k ne. ap (λ w. w.opened) (h.only.row k ne)) in
    let g : Grow r u = record { more = omega arith; state = λ k _. state k; steps = λ k _. steps k; opened = λ k _ e. marks k ∙ e } in
    let apart-i : i ≡ j → ⊥ = λ e. omega (arith, ap (λ n. (r.row n).steps) e) in
    relaxed p s r u q v i a j m may h g (omega arith) apart-i (λ k l ne. omega arith) (omega (arith, m.base.low j lt))
    (λ e goal. m.base.lacks j lt (sym opened ∙ e) (subst (Goal p) (state j) goal))
    (λ e. subst (Met p u) (sym (state j)) (met_grow g p (r.row j).state (m.met j lt (λ x. apart-i (sym x)) (sym opened ∙ e))))
    (λ k l kl ll e. m.base.apart k l (omega arith) (omega arith) (sym (state k) ∙ e ∙ state l))

pub new : New
new p s r u q v i a m may fresh used opened h =
    let kept : (k : ℕ) → k < r.used → u.row k ≡ r.row k = λ k l. h.only.row k (λ e. omega arith) in
    let state : (k : ℕ) → k < r.used → (u.row k).state ≡ (r.row k).state = λ k l. ap (λ w. w.state) (kept k l) in
    let inside = m.within in
    relaxed p s r u q v i a r.used m may h (record { more = omega arith; state = state; steps = λ k l. omega (arith, ap (λ w. w.steps) (kept k l)); opened = λ k l e. ap (λ w. w.opened) (kept k l) ∙ e }) (omega arith) (λ e. omega arith) (λ k l ne. omega arith) (omega (arith, m.base.low i m.within))
    (λ e. absurd (differ e opened))
    (λ e. absurd (differ e opened))
    (λ k l kl ll e. elim (dec_lt k r.used) [
      | yes ku ↦ elim (dec_lt l r.used) [
        | yes lu ↦ m.base.apart k l ku lu (sym (state k ku) ∙ e ∙ state l lu)
        | no lu ↦
            let le : l ≡ r.used = omega arith in
            absurd (fresh k ku (sym (state k ku) ∙ e ∙ ap (λ n. (u.row n).state) le ∙ h.state))
      ]
      | no ku ↦
          let ke : k ≡ r.used = omega arith in
          elim (dec_lt l r.used) [
            | yes lu ↦ absurd (fresh l lu (sym (state l lu) ∙ sym e ∙ ap (λ n. (u.row n).state) ke ∙ h.state))
            | no lu ↦ omega arith
          ]
    ])

pub ends : Ends
unfolding May
ends p s r q i m =
    let all : (a : ℕ) → May p a (r.row i).state → (j : ℕ) × At r (step p a (r.row i).state) ((r.row i).steps + 1) j = λ a may. m.done a may.0 may in
    record {
      base = m.base;
      closed = λ k lt shut. elim (ℕ_discrete k i) [
        | yes e ↦ subst (λ n. Closed p r (r.row n)) (sym e) (record { opened = m.opened; short = m.short; next = all })
        | no ne ↦ m.others k lt ne shut
      ];
      met = λ k lt o. elim (ℕ_discrete k i) [
        | yes e ↦ subst (λ n. Met p r (r.row n).state) (sym e) (λ a may. let (j, at) = all a may in (j, record { within = at.within; is = at.is }))
        | no ne ↦ m.met k lt ne o
      ];
    }

pub starts : Starts
starts p s r q used state steps opened queued =
    let only : (k : ℕ) → k < r.used → k ≡ 0 = λ k lt. omega arith in
    record {
      base = record {
        some = omega arith;
        start = state;
        none = steps;
        apart = λ k l a b e. omega arith;
        came = λ k pos lt. absurd (omega arith);
        low = λ k lt. subst (λ n. (r.row n).steps < r.used) (sym (only k lt)) (omega arith);
        lacks = λ k lt e. absurd (differ e (ap (λ n. (r.row n).opened) (only k lt) ∙ opened));
      };
      closed = λ k lt shut. absurd (queued (subst (Shut r q) (only k lt) shut));
      met = λ k lt e. absurd (differ e (ap (λ n. (r.row n).opened) (only k lt) ∙ opened));
    }

came_marked : {p : Problem} {r : Rows} {w : Entry} → Came p r w → Came p r (marked w)
came_marked c = record { within = c.within; less = c.less; opened = c.opened; may = c.may; is = c.is }

pub begins : Begins
begins p s r u q v i k lt short h =
    -- what holds of a row with and without its mark
    let each : (P : ℕ → Entry → Type 0) → ((n : ℕ) → P n (r.row n) → P n (marked (r.row n))) → (n : ℕ) → P n (r.row n) → P n (u.row n) =
    λ P f n z. elim (ℕ_discrete n i) [
      | yes e ↦ subst (λ m. P m (u.row m)) (sym e) (subst (P i) (sym h.row) (f i (subst (λ m. P m (r.row m)) e z)))
      | no ne ↦ subst (P n) (sym (h.only.row n ne)) z
    ] in
    let state : (n : ℕ) → (u.row n).state ≡ (r.row n).state = λ n. each (λ m w. w.state ≡ (r.row m).state) (λ m e. e) n refl in
    let steps : (n : ℕ) → (u.row n).steps ≡ (r.row n).steps = λ n. each (λ m w. w.steps ≡ (r.row m).steps) (λ m e. e) n refl in
    let marks : (n : ℕ) → (r.row n).opened ≡ true → (u.row n).opened ≡ true = λ n. each (λ m w. (r.row m).opened ≡ true → w.opened ≡ true) (λ m e z. refl) n (λ e. e) in
    let g : Grow r u = record { more = omega (arith, h.used); state = λ n _. state n; steps = λ n _. omega (arith, steps n); opened = λ n _. marks n } in
    record {
      base = record {
        some = omega (arith, h.used, k.base.some);
        start = state 0 ∙ k.base.start;
        none = steps 0 ∙ k.base.none;
        apart = λ n m nl ml e. k.base.apart n m (omega (arith, h.used)) (omega (arith, h.used)) (sym (state n) ∙ e ∙ state m);
        came = λ n pos nl. each (λ _ w. Came p u w) (λ _ c. came_marked c) n (came_grow g (k.base.came n pos (omega (arith, h.used))));
        low = λ n nl. omega (arith, steps n, h.used, k.base.low n (omega (arith, h.used)));
        lacks = λ n nl. split i (λ m. m < r.used → (u.row m).opened ≡ true → Goal p (u.row m).state → ⊥) (λ _ _. subst (λ z. Goal p z → ⊥) (sym (state i)) short) (λ m ne ml. subst (λ w. w.opened ≡ true → Goal p w.state → ⊥) (sym (h.only.row m ne)) (k.base.lacks m ml)) n (omega (arith, h.used));
      };
      within = omega (arith, h.used);
      opened = ap (λ w. w.opened) h.row;
      short = subst (λ z. Goal p z → ⊥) (sym (state i)) short;
      done = λ b bl. absurd (omega arith);
      others = λ n nl ne. subst₂ (λ w b. (b ≡ false) × (w.estimate < top) → Closed p u w) (sym (h.only.row n ne)) (sym (h.only.queued n ne)) (λ shut. closed_grow g (k.closed n (omega (arith, h.used)) shut));
      met = λ n nl ne. subst (λ w. w.opened ≡ true → Met p u w.state) (sym (h.only.row n ne)) (λ o. met_grow g p (r.row n).state (k.met n (omega (arith, h.used)) o));
    }
