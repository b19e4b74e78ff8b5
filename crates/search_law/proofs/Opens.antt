-- A successor is recorded: the first row, a shorter way, or a new row. Assumes nothing.
use Rattle.std.proofs.Common.{◌≡◌, ℕ, ◌+◌, ◌<◌, ◌≤◌, true, List, length, get_or, set, Option, sym, refl, ap, ◌∙◌, subst, arith, length-set}
use Rattle.figure.specs.declared.figure.Figure.{Figure}
use Rattle.figure.specs.Ranks.{rank}
use Rattle.model.specs.Strips.{State, Problem, May, step}
use Rattle.strips.specs.declared.state.State.{State as Words}
use Rattle.strips.specs.Standing.{standing}
use Rattle.queue.specs.declared.key.Pair.{Pair}
use Rattle.queue.specs.Queues.{vacant}
use Rattle.queue.proofs.Tables.{none_some, vacant_empty}
use Rattle.rows.specs.declared.row.Row.{Row}
use Rattle.rows.specs.Rows.{blank, fresh}
use Rattle.rows.specs.Lookups.{Tree, Written}
use Rattle.rows.proofs.Ways.{tree_set, tree_first}
use Rattle.search_theory.specs.Estimates.{NoneShorter}
use Rattle.search_theory.specs.Rows.{Told, Thrifty}
use Rattle.search_theory.specs.Turns.{WithinTurn, Reaches}
use Rattle.search_theory.proofs.Walk.{differ}
use Rattle.search_theory.proofs.Turn.{split, no_better, better, new, starts, not_taken, ends}
use Rattle.search_theory.proofs.Count.{falls_better, falls_new}
use Rattle.search_law.specs.Views.{view, queued, key_of}
use Rattle.search_law.specs.Boards.{board, enqueued, better_row, new_row, Standing, Turning, Overfull, Moves, Started}
use Rattle.search_law.proofs.Keys.{one_key, enq_long}
use Rattle.search_law.proofs.Writes.{Wrote, wrote, view_alike, keyed_alike, moves_alike}

pub turn_not_taken : (p : Problem) (s : State) (rows : List Row) (t : List (Option Pair)) (used i a : ℕ) → Turning p s (board rows t used) i a → (May p a ((view rows used).row i).state → ⊥) → Turning p s (board rows t used) i (a + 1)
turn_not_taken p s rows t used i a m never = record { turn = not_taken p s (view rows used) (queued t) i a m.turn never; sized = m.sized }

pub turn_ends : (p : Problem) (s : State) (rows : List Row) (t : List (Option Pair)) (used i a : ℕ) → a ≡ length p.actions → Turning p s (board rows t used) i a → Standing p s (board rows t used)
turn_ends p s rows t used i a e m = record { kept = ends p s (view rows used) (queued t) i (subst (WithinTurn p s (view rows used) (queued t) i) e m.turn); sized = m.sized }

module _ (p : Problem) (s : State) (v : State → ℕ) (A : Type 0) (rows : List Row) (t : List (Option Pair)) (used i a : ℕ) (m : Turning p s (board rows t used) i a) (may : May p a ((view rows used).row i).state) where
  pub same_turn : (j : ℕ) (next : State) → next ≡ step p a ((view rows used).row i).state → j < used → ((view rows used).row j).state ≡ next → ((view rows used).row j).steps ≤ ((view rows used).row i).steps + 1 → Turning p s (board rows t used) i (a + 1)
  same_turn j next is lt same le = record { turn = no_better p s (view rows used) (queued t) i a j m.turn (record { within = lt; is = same ∙ is; soon = le }); sized = m.sized }

  pub overfull : (next : State) → next ≡ step p a ((view rows used).row i).state → used ≡ length rows → ((k : ℕ) → k < used → ((view rows used).row k).state ≡ next → ⊥) → Overfull p s (board rows t used) i a
  overfull next is full fresh = record { base = m.turn.base; full = full; over = record { within = m.turn.within; opened = m.turn.opened; may = may; new = λ k kl e. fresh k kl (e ∙ sym is) } }

  module _ (j : ℕ) (lt : j < used) (same : ((view rows used).row j).state ≡ step p a ((view rows used).row i).state) (less : ((view rows used).row i).steps + 1 < ((view rows used).row j).steps) where
    abbrev w : Row
    w = better_row rows i a j

    inside : j < length rows
    inside = omega (arith, m.sized.tree.fits)

    abbrev rows' : List Row
    rows' = set rows j w

    abbrev t' : List (Option Pair)
    t' = enqueued t j (key_of w.steps w.estimate)

    wr : Wrote rows rows' t t' used used j w
    wr = wrote rows t used used j w inside (omega (arith, inside, m.sized.space))

    reaches : Reaches p (view rows used) (view rows' used) (queued t) (queued t') i a j
    reaches = record {
      only = wr.only;
      state = ap (λ x. standing x.state) wr.here ∙ same;
      steps = ap (λ x. x.steps) wr.here;
      from = ap (λ x. x.from) wr.here;
      action = ap (λ x. x.action) wr.here;
      queued = wr.shut;
    }

    pub better_turn : Turning p s (board rows' t' used) i (a + 1)
    better_turn = record {
      turn = better p s (view rows used) (view rows' used) (queued t) (queued t') i a j m.turn may lt same less refl (ap (λ x. x.opened) wr.here) reaches;
      sized = record {
        tree = tree_set rows used j w inside refl refl refl refl m.sized.tree;
        keyed = wr.keyed m.sized.keyed (omega arith) lt (λ k e f. one_key (get_or rows j blank).steps w.steps (get_or rows j blank).estimate k (m.sized.keyed j k e).1 f);
        space = omega (arith, m.sized.space, wr.long, wr.space);
        small = omega (arith, m.sized.small, wr.long);
      };
    }

    pub better_moves : Moves p s v A (board rows t used) (board rows' t' used)
    better_moves = record {
      more = omega arith;
      fits = m.sized.tree.fits;
      long = wr.long;
      space = wr.space;
      rest = λ k le. wr.there k (λ e. omega arith);
      falls = (let f = falls_better (length rows) (view rows used) (view rows' used) (queued t) (queued t') j m.sized.tree.fits lt wr.only refl (omega (arith, reaches.steps)) in omega arith);
      thrifty = λ h k kl. split j (λ n. n < used → ((view rows' used).row n).opened ≡ true → NoneShorter p s (((view rows' used).row n).steps + ((view rows' used).row n).estimate))
          (λ nl o acts plan. omega (arith, h j nl (sym (ap (λ x. x.opened) wr.here) ∙ o) acts plan, ap (λ x. x.steps) wr.here, ap (λ x. rank x.estimate) wr.here))
          (λ n ne nl. subst (λ x. x.opened ≡ true → NoneShorter p s (x.steps + rank x.estimate)) (sym (wr.there n ne)) (h n nl)) k kl;
      told = λ _ h k kl. split j (λ n. n < used → ((view rows' used).row n).estimate ≡ v ((view rows' used).row n).state)
          (λ nl. ap (λ z. rank z.estimate) wr.here ∙ h j nl ∙ ap v (sym (ap (λ z. standing z.state) wr.here)))
          (λ n ne nl. subst (λ z. rank z.estimate ≡ v (standing z.state)) (sym (wr.there n ne)) (h n nl)) k kl;
    }

  module _ (next : Words) (h : Figure) (is : standing next ≡ step p a ((view rows used).row i).state) (none : (k : ℕ) → k < used → ((view rows used).row k).state ≡ standing next → ⊥) (lt : used < length rows) where
    abbrev n : Row
    n = new_row rows i a next h

    abbrev rows'' : List Row
    rows'' = set rows used n

    abbrev t'' : List (Option Pair)
    t'' = enqueued t used (key_of n.steps n.estimate)

    wn : Wrote rows rows'' t t'' used (used + 1) used n
    wn = wrote rows t used (used + 1) used n lt (omega (arith, m.sized.space))

    new_reaches : Reaches p (view rows used) (view rows'' (used + 1)) (queued t) (queued t'') i a used
    new_reaches = record {
      only = wn.only;
      state = ap (λ x. standing x.state) wn.here ∙ is;
      steps = ap (λ x. x.steps) wn.here;
      from = ap (λ x. x.from) wn.here;
      action = ap (λ x. x.action) wn.here;
      queued = wn.shut;
    }

    old : (k : ℕ) → k < used + 1 → (k ≡ used → ⊥) → k < used
    old k kl ne = omega arith

    within : WithinTurn p s (view rows'' (used + 1)) (queued t'') i (a + 1)
    within = new p s (view rows used) (view rows'' (used + 1)) (queued t) (queued t'') i a m.turn may (λ k kl e. none k kl (e ∙ sym is)) refl (ap (λ x. x.opened) wn.here) new_reaches

    moves : (A → rank h ≡ v (standing next)) → Moves p s v A (board rows t used) (board rows'' t'' (used + 1))
    moves figure = record {
      more = omega arith;
      fits = omega arith;
      long = wn.long;
      space = wn.space;
      rest = λ k le. wn.there k (λ e. omega arith);
      falls = (let f = falls_new (length rows) (view rows used) (view rows'' (used + 1)) (queued t) (queued t'') lt wn.only refl (omega (arith, new_reaches.steps, m.turn.base.low i m.turn.within)) in omega arith);
      thrifty = λ th k kl. split used (λ x. x < used + 1 → ((view rows'' (used + 1)).row x).opened ≡ true → NoneShorter p s (((view rows'' (used + 1)).row x).steps + ((view rows'' (used + 1)).row x).estimate))
          (λ xl o. absurd (differ o (ap (λ y. y.opened) wn.here)))
          (λ x ne xl. subst (λ y. y.opened ≡ true → NoneShorter p s (y.steps + rank y.estimate)) (sym (wn.there x ne)) (th x (old x xl ne))) k kl;
      told = λ agrees th k kl. split used (λ x. x < used + 1 → ((view rows'' (used + 1)).row x).estimate ≡ v ((view rows'' (used + 1)).row x).state)
          (λ xl. ap (λ z. rank z.estimate) wn.here ∙ figure agrees ∙ ap v (sym (ap (λ z. standing z.state) wn.here)))
          (λ x ne xl. subst (λ z. rank z.estimate ≡ v (standing z.state)) (sym (wn.there x ne)) (th x (old x xl ne))) k kl;
    }

    -- the row is linked as well
    module _ (under : ℕ) (after : List Row) (hung : Written rows under used n after) (tree : Tree after (used + 1)) where
      pub new_turn : Turning p s (board after t'' (used + 1)) i (a + 1)
      new_turn = record {
        turn = subst (λ r. WithinTurn p s r (queued t'') i (a + 1)) (sym (view_alike hung.alike (used + 1))) within;
        sized = record {
          tree = tree;
          keyed = keyed_alike hung.alike t'' (used + 1) (wn.keyed m.sized.keyed (omega arith) (omega arith) (λ k e f. omega (arith, (m.sized.keyed used k e).0)));
          space = omega (arith, m.sized.space, hung.alike.long, wn.long, wn.space);
          small = omega (arith, m.sized.small, hung.alike.long, wn.long);
        };
      }

      pub new_moves : (A → rank h ≡ v (standing next)) → Moves p s v A (board rows t used) (board after t'' (used + 1))
      new_moves figure = moves_alike p s v A rows rows'' after hung.alike t t'' used (used + 1) (λ k le. hung.rest k (omega arith)) (moves figure)

-- the start state is written in the first row
module _ (p : Problem) (start : Words) (h : Figure) (rows : List Row) (t : List (Option Pair)) (empty : vacant t ≡ true) (some : 0 < length rows) (small : length rows ≤ 65535) (space : length rows ≤ length t) where
  abbrev f : Row
  f = fresh start 0 h 0 0

  f_wrote : Wrote rows (set rows 0 f) t (enqueued t 0 (key_of 0 h)) 0 1 0 f
  f_wrote = wrote rows t 0 1 0 f some (omega arith)

  pub first_stands : Standing p (standing start) (board (set rows 0 f) (enqueued t 0 (key_of 0 h)) 1)
  first_stands = record {
    kept = starts p (standing start) (view (set rows 0 f) 1) (queued (enqueued t 0 (key_of 0 h))) refl (ap (λ x. standing x.state) f_wrote.here) (ap (λ x. x.steps) f_wrote.here) (ap (λ x. x.opened) f_wrote.here) f_wrote.shut;
    sized = record {
      tree = tree_first (set rows 0 f) (omega (arith, f_wrote.long)) (ap (λ x. x.off) f_wrote.here, ap (λ x. x.on) f_wrote.here);
      keyed = f_wrote.keyed (λ i k e. absurd (none_some (vacant_empty t empty i) e)) (omega arith) (omega arith) (λ k e _. none_some (vacant_empty t empty 0) e);
      space = omega (arith, f_wrote.long, f_wrote.space);
      small = omega (arith, f_wrote.long);
    };
  }

  pub first_rest : (k : ℕ) → 1 ≤ k → get_or (set rows 0 f) k blank ≡ get_or rows k blank
  first_rest k le = f_wrote.there k (λ e. omega arith)

  pub first_told : (v : State → ℕ) → rank h ≡ v (standing start) → Told v (view (set rows 0 f) 1)
  first_told v e k kl =
      let z : k ≡ 0 = omega arith in
      subst (λ x. ((view (set rows 0 f) 1).row x).estimate ≡ v ((view (set rows 0 f) 1).row x).state) (sym z)
      (ap (λ x. rank x.estimate) f_wrote.here ∙ e ∙ ap v (sym (ap (λ x. standing x.state) f_wrote.here)))

  pub first_thrifty : Thrifty p (standing start) (view (set rows 0 f) 1)
  first_thrifty k kl o =
      let z : k ≡ 0 = omega arith in
      absurd (differ o (ap (λ x. ((view (set rows 0 f) 1).row x).opened) z ∙ ap (λ x. x.opened) f_wrote.here))

-- what the board is once the start state is recorded
pub record Begun (p : Problem) (start : Words) (v : State → ℕ) (Agrees : Type 0) (rows after : List Row) (t u : List (Option Pair)) : Type 0 where
  pub stands : Standing p (standing start) (board after u 1)
  pub thrifty : Thrifty p (standing start) (view after 1)
  pub told : Agrees → Told v (view after 1)
  pub rest : (k : ℕ) → 1 ≤ k → get_or after k blank ≡ get_or rows k blank
  pub long : length after ≡ length rows
  pub space : length u ≡ length t

pub begun : (p : Problem) (start : Words) (v : State → ℕ) (A : Type 0) (rows after : List Row) (t u : List (Option Pair)) → vacant t ≡ true → 0 < length rows → length rows ≤ 65535 → length rows ≤ length t → Started v A start rows after t u → Begun p start v A rows after t u
begun p start v A rows after t u empty some small space b =
    let h = b.figure in
    let P : List Row → Type 0 = λ x. Begun p start v A rows x t u in
    let Q : List (Option Pair) → Type 0 = λ y. Begun p start v A rows (set rows 0 (fresh start 0 h 0 0)) t y in
    subst P (sym b.rows_are) (subst Q (sym b.queue_is) (record {
      stands = first_stands p start h rows t empty some small space;
      thrifty = first_thrifty p start h rows t empty some small space;
      told = λ agrees. first_told p start h rows t empty some small space v (b.right agrees);
      rest = first_rest p start h rows t empty some small space;
      long = length-set rows 0 (fresh start 0 h 0 0);
      space = enq_long t 0 (key_of 0 h);
    }))
