-- What sweeps keep, that they end, and where. Assumes nothing.
use Rattle.std.proofs.Common.{◌≡◌, ℕ, ◌+◌, ◌<◌, ◌≤◌, Bool, true, false, ◌≢◌, List, length, get_or, set, replicate, Decides, sym, refl, ap, ◌∙◌, subst, ⊎_elim, arith}
use lib.ListN.{length-replicate}
use Rattle.std.proofs.lemmas.List.{get_or-replicate, get_or_default}
use Rattle.std.proofs.lemmas.Bool.{cases_lt, cases_eq, true≢false, both_ways}
use Rattle.figure.specs.declared.figure.Figure.{Figure}
use Rattle.figure.specs.declared.figure.Figure.TheVariants.{None}
use Rattle.figure.specs.Ranks.{top, rank}
use Rattle.figure.proofs.Same.{same_rank}
use Rattle.model.specs.Strips.{Problem, State, items}
use Rattle.model.specs.Figures.{Rule, Laws, Table, table, equations, Solves}
use Rattle.model.proofs.Causal.{Causal, System, total, falls, agree}
use Rattle.model.proofs.Equations.{system}
use Rattle.model.proofs.Ranked.{table_past, table_same, table_other}
use Rattle.strips.specs.Standing.{standing}
use Rattle.strips.specs.Tasks.{problem}
use Rattle.solve.specs.declared.equations.Equations.{Equations}
use Rattle.solve.specs.Systems.{equations_of}
use Rattle.solve.specs.Tables.{Solved, Falling, Swept}

-- a lawful rule's equations are a system
pub system_of : {R : Type 0} (result : R → Rule) → ((r : R) → Laws (result r)) → (e : Equations R) → System (items (problem e.task.now)) (equations_of result e)
system_of result lawful e = system (result e.rule.now) (lawful e.rule.now) (problem e.task.now) (standing e.state.now)

-- before the first item
pub swept_none : (F : Table → Table) (figures : List Figure) → Falling F (table figures) → Swept F 0 figures figures false
swept_none F figures h = record {
  falling = h;
  lower = λ q. omega arith;
  fell = λ e. absurd (true≢false (sym e));
  settled = λ _ q l. absurd (omega arith);
}

-- the item is consistent
pub swept_same : (F : Table → Table) (i : ℕ) (before after : List Figure) (changed : Bool) → Swept F i before after changed → table after i ≡ F (table after) i → Swept F (i + 1) before after changed
swept_same F i before after changed h e = record {
  falling = h.falling;
  lower = h.lower;
  fell = h.fell;
  settled = λ no q l. ⊎_elim (λ here. ap (table after) here ∙ e ∙ sym (ap (F (table after)) here)) (λ other. h.settled no q (omega arith)) (cases_eq q i);
}

-- the item falls to what the equations make of it
module _ (F : Table → Table) (causal : Causal F) where
  pub swept_set : (i : ℕ) (before after : List Figure) (changed : Bool) (f : Figure) → i < length after → length after ≡ length before → Swept F i before after changed → rank f ≡ F (table after) i → table after i ≢ F (table after) i → Swept F (i + 1) before (set after i f) true
  swept_set i before after changed f l same h e ne =
      let x = table after in
      let y = table (set after i f) in
      let here : y i ≡ F x i = table_same after i f l ∙ e in
      let less : F x i < x i = omega (arith, h.falling i, ne) in
      let under : (q : ℕ) → y q ≤ x q =
      λ q. ⊎_elim (λ at. omega (arith, ap y at, ap x at)) (λ other. omega (arith, table_other after i f q other)) (cases_eq q i) in
      record {
        falling = λ q. let down : F y q ≤ F x q = causal x y q (λ r _. under r) in
            ⊎_elim (λ at. omega (arith, ap y at, ap (F x) at)) (λ other. omega (arith, table_other after i f q other, h.falling q)) (cases_eq q i);
        lower = λ q. omega (arith, under q, h.lower q);
        fell = λ _. (i, omega arith, omega (arith, h.lower i));
        settled = λ no. absurd (true≢false no);
      }

  -- one or the other, by whether the two figures are equal
  pub swept_more : (i : ℕ) (before after : List Figure) (changed : Bool) (f d : Figure) (b : Bool) → i < length after → length after ≡ length before → Swept F i before after changed → rank f ≡ F (table after) i → Decides b (f ≡ get_or after i d) → (b ≡ false → Swept F (i + 1) before (set after i f) true) × (b ≡ true → Swept F (i + 1) before after changed)
  swept_more i before after changed f d b l same h e told =
      let at : get_or after i d ≡ get_or after i None = get_or_default after i d None l in (
        (λ no. swept_set i before after changed f l same h e (λ z. both_ways b no (told.1 (same_rank _ _ (e ∙ sym z) ∙ sym at)))),
        λ yes. swept_same F i before after changed h (sym (ap rank (told.0 yes ∙ at)) ∙ e),
      )

-- a sweep that changes something lowers the sum
pub sum_falls : (F : Table → Table) (n : ℕ) (before after : List Figure) → Swept F n before after true → total (length before) (table after) < total (length before) (table before)
sum_falls F n before after h =
    let q = h.fell refl in
    ⊎_elim (λ l. l) (λ same. absurd (omega (arith, same q.0 q.1, q.2))) (falls (table before) (table after) h.lower (length before)).1

-- a sweep that changes nothing leaves a solution
pub solved : (n : ℕ) (F : Table → Table) → System n F → (before after : List Figure) → length before ≡ n → length after ≡ n → Swept F (length before) before after false → Solves F (table after)
solved n F s before after old new h q =
    ⊎_elim (λ l. h.settled refl q (omega arith)) (λ l. table_past after q (omega arith) ∙ sym (s.beyond (table after) q l)) (cases_lt q n)

-- where nothing has a figure, none is below what the equations make of it
pub none_falling : (n : ℕ) (F : Table → Table) → System n F → (m : ℕ) → Falling F (table (replicate m None))
none_falling n F s m q =
    let all : table (replicate m None) q ≡ top =
    ⊎_elim (λ l. ap rank (get_or-replicate m q None None l)) (λ l. table_past (replicate m None) q (omega (arith, length-replicate m None))) (cases_lt q m) in
    omega (arith, all, s.bound (table (replicate m None)) q)

-- and so for the equations of any state
pub nowhere_falling : (rule : Rule) → Laws rule → (p : Problem) (s : State) (m : ℕ) (figures : List Figure) → figures ≡ replicate m None → Falling (equations rule p s) (table figures)
nowhere_falling rule laws p s m figures all =
    subst (λ l. Falling (equations rule p s) (table l)) (sym all) (none_falling (items p) (equations rule p s) (system rule laws p s) m)

-- the solution is the only one
pub one_solved : (rule : Rule) → Laws rule → (p : Problem) (s : State) (figures : List Figure) → length figures ≡ items p → Solves (equations rule p s) (table figures) → Solved rule p s figures
one_solved rule laws p s figures whole h = record {
  whole = whole;
  solves = h;
  only = λ x sx. agree (equations rule p s) (system rule laws p s).causal x (table figures) sx h;
}
