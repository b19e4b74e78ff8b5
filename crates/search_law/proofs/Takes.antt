-- A row is taken from the queue. Assumes nothing.
use Rattle.std.proofs.Common.{◌≡◌, ℕ, ◌+◌, ◌<◌, ◌≤◌, true, false, List, length, get_or, set, is_some, Some, None, Option, sym, refl, ap, ◌∙◌, subst, ⊎_elim, arith, length-set, get_or-set_other, get_or-set_same}
use Rattle.figure.specs.Ranks.{rank, top}
use Rattle.model.specs.Strips.{State, Problem, Goal}
use Rattle.strips.specs.Standing.{standing}
use Rattle.queue.specs.declared.key.Pair.{Pair}
use Rattle.queue.specs.Keys.{pair_leq}
use Rattle.queue.specs.Queues.{at, vacant, Smallest}
use Rattle.queue.proofs.Tables.{none_some, some_some, vacant_empty}
use Rattle.rows.specs.declared.row.Row.{Row}
use Rattle.rows.specs.Rows.{blank}
use Rattle.rows.proofs.Ways.{tree_set}
use Rattle.search_theory.specs.Estimates.{AdmissibleOn, HasNoPlan, NoneShorter}
use Rattle.search_theory.specs.Rows.{Told, Thrifty}
use Rattle.search_theory.specs.Frontiers.{Least}
use Rattle.search_theory.specs.Turns.{Takes}
use Rattle.search_theory.specs.Measure.{potential}
use Rattle.search_theory.proofs.Walk.{differ, either, taken, none_left}
use Rattle.search_theory.proofs.Turn.{split, begins}
use Rattle.search_theory.proofs.Count.{falls_taken}
use Rattle.search_law.specs.Views.{entry, view, queued, key_of, key_at}
use Rattle.search_law.specs.Law.{GoalTaken, AllOpened}
use Rattle.search_law.specs.Boards.{board, Standing, Turning}
use Rattle.search_law.proofs.Keys.{key_first, key_low, some_of, pair_first}

abbrev pub opened_row : Row → Row
opened_row w = record w { opened = true }

module _ (p : Problem) (s : State) (rows : List Row) (t : List (Option Pair)) (used i : ℕ) (k : Pair) (m : Standing p s (board rows t used)) (held : at t i ≡ Some k) where
  pub taken_within : i < used
  taken_within = (m.sized.keyed i k held).0

  abbrev taken_rows : List Row
  taken_rows = set rows i (opened_row (get_or rows i blank))

  abbrev taken_table : List (Option Pair)
  taken_table = set t i None

  pub in_rows : i < length rows
  in_rows = omega (arith, taken_within, m.sized.tree.fits)

  here_row : get_or taken_rows i blank ≡ opened_row (get_or rows i blank)
  here_row = get_or-set_same rows i (opened_row (get_or rows i blank)) blank in_rows

  pub there_row : (n : ℕ) → (n ≡ i → ⊥) → get_or taken_rows n blank ≡ get_or rows n blank
  there_row n ne = get_or-set_other rows i n (opened_row (get_or rows i blank)) blank ne

  none_here : at taken_table i ≡ None
  none_here = get_or-set_same t i None None (omega (arith, in_rows, m.sized.space))

  takes : Takes (view rows used) (view taken_rows used) (queued t) (queued taken_table) i
  takes = record { only = record { row = λ n ne. ap entry (there_row n ne); queued = λ n ne. ap is_some (get_or-set_other t i n None None ne) }; used = refl; row = ap entry here_row }

  pub taken_turn : (Goal p ((view rows used).row i).state → ⊥) → Turning p s (board taken_rows taken_table used) i 0
  taken_turn short = record {
    turn = begins p s (view rows used) (view taken_rows used) (queued t) (queued taken_table) i m.kept taken_within short takes;
    sized = record {
      tree = tree_set rows used i (opened_row (get_or rows i blank)) in_rows refl refl refl refl m.sized.tree;
      keyed = split i (λ n. (x : Pair) → at taken_table n ≡ Some x → (n < used) × (key_at taken_rows n ≡ Some x)) (λ x e. absurd (none_some none_here e))
          (λ n ne x e. let z = m.sized.keyed n x (sym (get_or-set_other t i n None None ne) ∙ e) in (z.0, ap (λ w. key_of w.steps w.estimate) (there_row n ne) ∙ z.1));
      space = omega (arith, m.sized.space, length-set rows i (opened_row (get_or rows i blank)), length-set t i None);
      small = omega (arith, m.sized.small, length-set rows i (opened_row (get_or rows i blank)));
    };
  }

  pub taken_falls : potential (length rows) (view taken_rows used) (queued taken_table) < potential (length rows) (view rows used) (queued t)
  taken_falls = falls_taken (length rows) (view rows used) (view taken_rows used) (queued t) (queued taken_table) i m.sized.tree.fits taken_within takes.only refl (ap (λ w. w.steps) here_row) (ap is_some held) (ap is_some none_here)

  pub taken_told : (v : State → ℕ) → Told v (view rows used) → Told v (view taken_rows used)
  taken_told v h n nl = split i (λ x. x < used → ((view taken_rows used).row x).estimate ≡ v ((view taken_rows used).row x).state)
      (λ xl. subst (λ z. rank z.estimate ≡ v (standing z.state)) (sym here_row) (h i xl))
      (λ x ne xl. subst (λ z. rank z.estimate ≡ v (standing z.state)) (sym (there_row x ne)) (h x xl)) n nl

  -- the row has the goal
  pub goal_taken : (Sound : Type 0) → (Sound → Smallest pair_leq t (Some (i, k))) → Goal p ((view rows used).row i).state → (n : ℕ) → n ≤ ((view rows used).row i).steps → GoalTaken p Sound rows used n i
  goal_taken Sound least goal n le = record {
    within = taken_within;
    goal = goal;
    soon = le;
    first = λ sound j key other jl closed e f.
        let here : k ≡ key = some_some (m.sized.keyed i k held).1 e in
        let low : ((view rows used).row j).estimate < top = key_low (get_or rows j blank).steps (get_or rows j blank).estimate other f in
        let isq : queued t j ≡ true = ⊎_elim (λ q. q) (λ q. absurd (differ (m.kept.closed j jl (q, low)).opened closed)) (either (queued t j)) in
        let (x, q) = some_of (at t j) isq in
        let same : x ≡ other = some_some (m.sized.keyed j x q).1 f in
        subst (λ a. pair_leq a other ≡ true) here (subst (λ b. pair_leq k b ≡ true) same (least sound j x q));
  }

  module _ (v : State → ℕ) (fair : AdmissibleOn p v) (told : Told v (view rows used)) (smallest : Smallest pair_leq t (Some (i, k))) where
    first_is : (n : ℕ) (x : Pair) → at t n ≡ Some x → x.first ≡ ((view rows used).row n).steps + ((view rows used).row n).estimate
    first_is n x e = key_first (get_or rows n blank).steps (get_or rows n blank).estimate x (m.sized.keyed n x e).1

    taken_least : Least (view rows used) (queued t) i
    taken_least n nl q =
        let (x, e) = some_of (at t n) q in
        omega (arith, first_is n x e, first_is i k held, pair_first k x (smallest n x e))

    pub taken_short : NoneShorter p s (((view rows used).row i).steps + ((view rows used).row i).estimate)
    taken_short = taken p s (view rows used) (queued t) v fair told m.kept i taken_least

    pub taken_thrifty : Thrifty p s (view rows used) → Thrifty p s (view taken_rows used)
    taken_thrifty h n nl = split i (λ x. x < used → ((view taken_rows used).row x).opened ≡ true → NoneShorter p s (((view taken_rows used).row x).steps + ((view taken_rows used).row x).estimate))
        (λ xl _. subst (λ z. NoneShorter p s (z.steps + rank z.estimate)) (sym here_row) taken_short)
        (λ x ne xl. subst (λ z. z.opened ≡ true → NoneShorter p s (z.steps + rank z.estimate)) (sym (there_row x ne)) (h x xl)) n nl

-- the queue is empty
module _ (p : Problem) (s : State) (rows : List Row) (t : List (Option Pair)) (used : ℕ) (m : Standing p s (board rows t used)) (empty : vacant t ≡ true) where
  off : (i : ℕ) → queued t i ≡ false
  off i = ap is_some (vacant_empty t empty i)

  pub all_opened : AllOpened (view rows used)
  all_opened i lt low = (m.kept.closed i lt (off i, low)).opened

  pub nothing_left : (v : State → ℕ) → AdmissibleOn p v → Told v (view rows used) → HasNoPlan p s
  nothing_left v fair told = none_left p s (view rows used) (queued t) v fair told m.kept (λ i _. off i)

-- the row is taken and opened: what the board is then
pub record NowOpen (p : Problem) (s : State) (rows : List Row) (t : List (Option Pair)) (used i : ℕ) (k : Pair) (mid : List Row) (u : List (Option Pair)) : Type 0 where
  pub turn : Turning p s (board mid u used) i 0
  pub falls : potential (length rows) (view mid used) (queued u) < potential (length rows) (view rows used) (queued t)
  pub long : length mid ≡ length rows
  pub space : length u ≡ length t
  pub rest : (n : ℕ) → used ≤ n → get_or mid n blank ≡ get_or rows n blank
  pub told : (v : State → ℕ) → Told v (view rows used) → Told v (view mid used)
  pub thrifty : (v : State → ℕ) → AdmissibleOn p v → Told v (view rows used) → Smallest pair_leq t (Some (i, k)) → Thrifty p s (view rows used) → Thrifty p s (view mid used)

pub now_open : (p : Problem) (s : State) (rows : List Row) (t : List (Option Pair)) (used i : ℕ) (k : Pair) → Standing p s (board rows t used) → at t i ≡ Some k → (Goal p ((view rows used).row i).state → ⊥) → (mid : List Row) (u : List (Option Pair)) → mid ≡ set rows i (opened_row (get_or rows i blank)) → u ≡ set t i None → NowOpen p s rows t used i k mid u
now_open p s rows t used i k m held short mid u em eu =
    let P : List Row → Type 0 = λ x. NowOpen p s rows t used i k x u in
    let Q : List (Option Pair) → Type 0 = λ y. NowOpen p s rows t used i k (set rows i (opened_row (get_or rows i blank))) y in
    subst P (sym em) (subst Q (sym eu) (record {
      turn = taken_turn p s rows t used i k m held short;
      falls = taken_falls p s rows t used i k m held;
      long = length-set rows i (opened_row (get_or rows i blank));
      space = length-set t i None;
      rest = λ n le. there_row p s rows t used i k m held n (λ e. omega (arith, taken_within p s rows t used i k m held));
      told = taken_told p s rows t used i k m held;
      thrifty = taken_thrifty p s rows t used i k m held;
    }))
