-- The rows of a settling, through its steps. Assumes nothing.
--
--   Phase     where an item stands: fresh, raised, fallen or risen, with its rows so far
--   Track     what holds after steps of keys up to k
--   moved_by  a step as a move of ranks
use Rattle.std.proofs.Common.{◌≡◌, ℕ, ◌+◌, ◌*◌, ◌<◌, ◌≤◌, ltb, ◌≢◌, ◌⊎◌, List, [], ◌∷◌, ◌++◌, length, get_or, set, sym, refl, ap, ◌∙◌, subst, ap₂, inl, inr, ⊎_elim, arith, length-append, length-set}
use Rattle.std.specs.List.{AllByRecursion}
use Rattle.std.proofs.lemmas.List.{get_or-set_same, get_or-set_other}
use Rattle.std.proofs.ByRecursion.{All-push, All-weaker}
use Rattle.std.proofs.lemmas.Bool.{cases_lt, cases_eq, cond-true, cond-false, eq-eqb, ne_eqb, lt-ltb, le-ltb, and_left, and_right, and_from}
use Rattle.figure.specs.declared.figure.Figure.{Figure}
use Rattle.figure.specs.declared.figure.Figure.TheVariants.{None}
use Rattle.figure.specs.Ranks.{top, rank}
use Rattle.figure.proofs.Same.{same_rank}
use Rattle.model.specs.Figures.{Table, table, Solves}
use Rattle.model.specs.Docket.{Row, row, Applies, low, RisingRows, rows_of, changes, Docket}
use Rattle.model.specs.Settling.{Consistent, key, Step}
use Rattle.model.proofs.Causal.{System, total, total_at, falls_at}
use Rattle.model.proofs.Ranked.{table_past, table_same, table_other}
use Rattle.model.proofs.Rows.{applies_push, rising_push, rows_same, rows_other}
use Rattle.model.proofs.Steps.{Keyed, Move, kept, keyed, rises, left, left_two, left_one, left_none, left_fewer, left_same, total_two}

-- ---- where an item stands
pub data Phase (F : Table → Table) (h₀ h : List Figure) (k r : ℕ) (own : List Row) : Type 0 where
  fresh : get_or h r None ≡ get_or h₀ r None → own ≡ [] → Phase F h₀ h k r own
  raised : get_or h r None ≡ None → table h₀ r ≤ k → table h₀ r < F (table h) r → own ≡ row r (get_or h₀ r None) None ∷ [] → Phase F h₀ h k r own
  fallen : table h r ≡ F (table h) r → table h r ≤ k → table h r < table h₀ r → own ≡ row r (get_or h₀ r None) (get_or h r None) ∷ [] → Phase F h₀ h k r own
  risen : table h r ≡ F (table h) r → table h r ≤ k → table h₀ r < table h r → table h r < top → own ≡ row r (get_or h₀ r None) None ∷ row r None (get_or h r None) ∷ [] → Phase F h₀ h k r own

pub record Track (n : ℕ) (F : Table → Table) (h₀ h : List Figure) (k : ℕ) (rows : List Row) : Type 0 where
  pub long : length h ≡ n
  pub low_key : Keyed F k (table h)
  pub phases : (r : ℕ) → Phase F h₀ h k r (rows_of r rows)
  pub applies : Applies h₀ rows h
  pub rising : RisingRows rows
  pub under : AllByRecursion (λ v. low v ≤ k) rows
  pub budget : total n (left (table h₀) (table h)) + length rows ≤ 2 * n

pub track_start : (n : ℕ) (F : Table → Table) (h : List Figure) → length h ≡ n → Track n F h h 0 []
track_start n F h e = record {
  long = e;
  low_key = λ r. inr (omega arith, omega arith);
  phases = λ r. fresh refl refl;
  applies = refl;
  rising = tt;
  under = tt;
  budget = let e = total_two n (table h) in omega arith;
}

-- a step as a move of ranks
abbrev Way : (Table → Table) → List Figure → ℕ → ℕ → Figure → Type 0
Way F h q l f = ((F (table h) q ≡ l) × (l < table h q) × (rank f ≡ l)) ⊎ ((table h q ≡ l) × (l < F (table h) q) × (f ≡ None))

pub step_way : (F : Table → Table) (h : List Figure) (q : ℕ) (f : Figure) → Step F h q f → Way F h q (key F (table h) q) f
step_way F h q f t =
    ⊎_elim
    (λ l. let e = t.figure ∙ cond-true (ltb (F (table h) q) (table h q)) (F (table h) q) top (lt-ltb _ _ l) in inl (omega arith, omega arith, omega arith))
    (λ l.
    let e = t.figure ∙ cond-false (ltb (F (table h) q) (table h q)) (F (table h) q) top (le-ltb _ _ l) in
    let o = t.inconsistent in
    let m : table h q < F (table h) q = ⊎_elim (λ m. m) (λ m. absurd (o (omega arith))) (cases_lt (table h q) (F (table h) q)) in
    inr (omega arith, omega arith, same_rank f None e))
    (cases_lt (F (table h) q) (table h q))

pub moved_by : (F : Table → Table) (h : List Figure) (q l : ℕ) (f : Figure) → q < length h → Keyed F l (table h) → Way F h q l f → Move F (table h) q l (table (set h q f))
moved_by F h q l f within least way = record {
  least = least;
  way = ⊎_elim (λ a. inl (a.0, a.1, table_same h q f within ∙ a.2)) (λ a. inr (a.0, a.1, table_same h q f within ∙ ap rank a.2)) way;
  rest = λ r o. table_other h q f r o;
}

pub step_least : (F : Table → Table) (h : List Figure) (q : ℕ) (f : Figure) → Step F h q f → Keyed F (key F (table h) q) (table h)
step_least F h q f t r = ⊎_elim inl (λ m. inr (omega arith, omega arith)) (t.least r)

pub step_moved : (F : Table → Table) (h : List Figure) (q : ℕ) (f : Figure) → Step F h q f → Move F (table h) q (key F (table h) q) (table (set h q f))
step_moved F h q f t = moved_by F h q (key F (table h) q) f t.item (step_least F h q f t) (step_way F h q f t)

module _ (n : ℕ) (F : Table → Table) (s : System n F) (h₀ h : List Figure) (k : ℕ) (rows : List Row) (t : Track n F h₀ h k rows) where
  -- one turn
  module _ (q l : ℕ) (f : Figure) (within : q < length h) (least : Keyed F l (table h)) (way : Way F h q l f) where
    x : Table
    x = table h

    y : Table
    y = table (set h q f)

    here : y q ≡ rank f
    unfolding y
    here = table_same h q f within

    move : Move F x q l y
    unfolding x y
    move = moved_by F h q l f within least way

    up : k ≤ l
    unfolding x y
    up = rises n F s x q k l y t.low_key move

    alike : (r : ℕ) → (F y r ≡ F x r) ⊎ ((l < F x r) × (l < F y r))
    alike = kept n F s x q l y move

    at : Phase F h₀ h k q (rows_of q rows) → Phase F h₀ (set h q f) l q (rows_of q (rows ++ (row q (get_or h q None) f ∷ [])))
    unfolding x y
    at (fresh e z) =
        let own : rows_of q (rows ++ (row q (get_or h q None) f ∷ [])) ≡ row q (get_or h₀ q None) f ∷ [] = rows_same q rows (get_or h q None) f ∙ ap₂ (λ a b. a ++ (row q b f ∷ [])) z e in
        let x₀ = ap rank e in
        ⊎_elim
        (λ a. fallen (omega (arith, alike q, here, a)) (omega (arith, here, a)) (omega (arith, here, a, x₀)) (own ∙ ap (λ g. row q (get_or h₀ q None) g ∷ []) (sym (get_or-set_same h q f None within))))
        (λ a. raised (get_or-set_same h q f None within ∙ a.2) (omega (arith, a, x₀)) (omega (arith, alike q, a, x₀)) (own ∙ ap (λ g. row q (get_or h₀ q None) g ∷ []) a.2))
        way
    at (raised e o m z) =
        let own : rows_of q (rows ++ (row q (get_or h q None) f ∷ [])) ≡ row q (get_or h₀ q None) None ∷ row q None f ∷ [] = rows_same q rows (get_or h q None) f ∙ ap₂ (λ a b. a ++ (row q b f ∷ [])) z e in
        let tops = ap rank e in
        let b = s.bound x q in
        risen (omega (arith, alike q, here, way, tops, b)) (omega (arith, here, way, tops, b)) (omega (arith, here, way, tops, b)) (omega (arith, here, way, tops, b))
        (own ∙ ap (λ g. row q (get_or h₀ q None) None ∷ row q None g ∷ []) (sym (get_or-set_same h q f None within)))
    at (fallen e o m z) = absurd (omega (arith, way))
    at (risen e o m u z) = absurd (omega (arith, way))

    by : (r : ℕ) → r ≢ q → Phase F h₀ h k r (rows_of r rows) → Phase F h₀ (set h q f) l r (rows_of r (rows ++ (row q (get_or h q None) f ∷ [])))
    unfolding x y
    by r o (fresh e z) = fresh (get_or-set_other h q r f None o ∙ e) (rows_other r q rows (get_or h q None) f (λ i. o (sym i)) ∙ z)
    by r o (raised e a m z) =
        raised (get_or-set_other h q r f None o ∙ e) (omega (arith, up)) (omega (arith, up, alike r)) (rows_other r q rows (get_or h q None) f (λ i. o (sym i)) ∙ z)
    by r o (fallen e a m z) =
        let same = table_other h q f r o in
        fallen (omega (arith, same, alike r, up)) (omega (arith, same, up)) (omega (arith, same)) (rows_other r q rows (get_or h q None) f (λ i. o (sym i)) ∙ z ∙ ap (λ g. row r (get_or h₀ r None) g ∷ []) (sym (get_or-set_other h q r f None o)))
    by r o (risen e a m u z) =
        let same = table_other h q f r o in
        risen (omega (arith, same, alike r, up)) (omega (arith, same, up)) (omega (arith, same)) (omega (arith, same)) (rows_other r q rows (get_or h q None) f (λ i. o (sym i)) ∙ z ∙ ap (λ g. row r (get_or h₀ r None) None ∷ row r None g ∷ []) (sym (get_or-set_other h q r f None o)))

    low_is : low (row q (get_or h q None) f) ≡ l
    low_is = ⊎_elim (λ a. omega (arith, a)) (λ a. omega (arith, a, ap rank a.2, s.bound (table h) q)) way

    spent : Phase F h₀ h k q (rows_of q rows) → left (table h₀) y q < left (table h₀) x q
    unfolding x y
    spent (fresh e z) =
        let x₀ = ap rank e in
        let changed : y q ≢ table h₀ q = λ i. omega (arith, move.way, s.bound x q) in
        omega (arith, left_two (table h₀) x q x₀, left_fewer (table h₀) y q changed)
    spent (raised e o m z) =
        let tops = ap rank e in
        let b = s.bound x q in
        omega (arith, left_one (table h₀) x q (λ i. omega arith) tops, left_none (table h₀) y q (λ i. omega (arith, move.way)) (λ i. omega (arith, move.way)))
    spent (fallen e o m z) = absurd (omega (arith, way))
    spent (risen e o m u z) = absurd (omega (arith, way))

    pub track_more : Track n F h₀ (set h q f) l (rows ++ (row q (get_or h q None) f ∷ []))
    unfolding x y
    track_more = record {
      long = length-set h q f ∙ t.long;
      low_key = keyed n F s x q l y move;
      phases = λ r. ⊎_elim (λ i. subst (λ u. Phase F h₀ (set h q f) l u (rows_of u (rows ++ (row q (get_or h q None) f ∷ [])))) (sym i) (at (t.phases q))) (λ o. by r o (t.phases r)) (cases_eq r q);
      applies = applies_push h₀ rows h q (get_or h q None) f t.applies within refl (λ i. let j = ap rank i in ⊎_elim (λ a. omega (arith, a, j)) (λ a. omega (arith, a, j, ap rank a.2, s.bound x q)) way);
      rising = rising_push rows (row q (get_or h q None) f) t.rising (All-weaker (λ v. low v ≤ k) (λ v. low v ≤ low (row q (get_or h q None) f)) (λ v m. omega (arith, m, up, low_is)) rows t.under);
      under = All-push (λ v. low v ≤ l) rows (row q (get_or h q None) f) (All-weaker (λ v. low v ≤ k) (λ v. low v ≤ l) (λ v m. omega (arith, m, up)) rows t.under) (omega (arith, low_is));
      budget = omega (arith, t.budget, length-append rows (row q (get_or h q None) f ∷ []), (falls_at (left (table h₀) x) (left (table h₀) y) q (λ r o. left_same (table h₀) x y r (move.rest r o)) (spent (t.phases q)) n).1 (omega (arith, t.long)));
    }

  final : (r : ℕ) → left (table h₀) (table h) r ≡ 0 → Phase F h₀ h k r (rows_of r rows) → table h r ≡ F (table h) r
  final r z (fresh e w) = absurd (omega (arith, left_two (table h₀) (table h) r (ap rank e)))
  final r z (raised e o m w) = let tops = ap rank e in let b = s.bound (table h) r in absurd (omega (arith, left_one (table h₀) (table h) r (λ i. omega arith) tops))
  final r z (fallen e o m w) = e
  final r z (risen e o m u w) = e

  -- items past the last are consistent, so the others alone decide
  pub within_solves : ((r : ℕ) → r < n → Consistent F (table h) r) → Solves F (table h)
  within_solves all r =
      ⊎_elim (λ i. all r i) (λ i. table_past h r (omega (arith, t.long)) ∙ sym (s.beyond (table h) r i)) (cases_lt r n)

  -- after two steps for each item all stand at their equations
  pub spent_solves : 2 * n ≤ length rows → Solves F (table h)
  spent_solves full =
      within_solves (λ r i. final r (omega (arith, t.budget, total_at n (left (table h₀) (table h)) r i)) (t.phases r))

  exact_at : (r : ℕ) → Phase F h₀ h k r (rows_of r rows) → rows_of r rows ≡ changes r (get_or h₀ r None) (get_or h r None)
  exact_at r (fresh e z) = z ∙ sym (cond-true _ _ _ (eq-eqb (table h₀ r) (table h r) (sym (ap rank e))))
  exact_at r (raised e o m z) =
      let tops = ap rank e in
      let b = s.bound (table h) r in
      z ∙ sym (cond-false _ _ _ (ne_eqb (table h₀ r) (table h r) (λ i. omega arith)) ∙ cond-false _ _ _ (and_right (ltb (table h₀ r) (table h r)) _ (le-ltb (table h r) top (omega arith))) ∙ ap (λ g. row r (get_or h₀ r None) g ∷ []) e)
  exact_at r (fallen e o m z) =
      z ∙ sym (cond-false _ _ _ (ne_eqb (table h₀ r) (table h r) (λ i. omega arith)) ∙ cond-false _ _ _ (and_left _ (ltb (table h r) top) (le-ltb (table h₀ r) (table h r) (omega arith))))
  exact_at r (risen e o m u z) =
      z ∙ sym (cond-false _ _ _ (ne_eqb (table h₀ r) (table h r) (λ i. omega arith)) ∙ cond-true _ _ _ (and_from _ _ (lt-ltb (table h₀ r) (table h r) m) (lt-ltb (table h r) top u)))

  pub track_docket : Docket h₀ h rows
  track_docket = record { applies = t.applies; exact = λ r. exact_at r (t.phases r); rising = t.rising }
