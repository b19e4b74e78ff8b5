-- The queue of a session and its figures. Assumes nothing.
use Rattle.std.proofs.Common.{◌≡◌, ℕ, ◌+◌, ◌<◌, ◌≤◌, min, true, false, not, ◌&&◌, leb, ◌≢◌, List, length, get_or, set, replicate, Option, sym, refl, ap, ◌∙◌, subst, ap₂, inl, inr, ⊎_elim, arith, length-set}
use lib.ListN.{length-replicate}
use Rattle.std.proofs.lemmas.List.{get_or_past, get_or-set_same, get_or-set_other, get_or-replicate}
use Rattle.std.proofs.lemmas.Bool.{cases_lt, cases_eq, cases_Bool, cond-true, cond-false, eq-eqb, ne_eqb, leb-true, leb-false, le-leb, true≢false}
use Rattle.std.specs.declared.option.Option.TheVariants as option
use Rattle.figure.specs.declared.figure.Figure.{Figure}
use Rattle.figure.specs.declared.figure.Figure.TheVariants.{None}
use Rattle.figure.specs.Ranks.{top, rank}
use Rattle.figure.proofs.Same.{same_rank}
use Rattle.model.specs.Strips.{State, struck}
use Rattle.model.specs.Figures.{Table, table, Solves}
use Rattle.model.proofs.Ranked.{table_past, table_same, table_other}
use Rattle.queue.specs.Queues.{at, vacant}
use Rattle.queue.proofs.Tables.{none_some, vacant_empty}
use Rattle.session_theory.specs.Kept.{Kept, smaller, due, Dues, Stale}

pub rank_smaller : (a b : Figure) → rank (smaller a b) ≡ min (rank a) (rank b)
rank_smaller a b =
    ⊎_elim
    (λ e. let h = leb-true (rank a) (rank b) e in let i = ap rank (cond-true (leb (rank a) (rank b)) a b e) in omega (arith, i))
    (λ e. let h = leb-false (rank a) (rank b) e in let i = ap rank (cond-false (leb (rank a) (rank b)) a b e) in omega (arith, i))
    (cases_Bool (leb (rank a) (rank b)))

pub due_none : (h w : Figure) → rank h ≡ rank w → due h w ≡ option.None
due_none h w e = cond-true _ _ _ (eq-eqb (rank h) (rank w) e)

pub due_some : (h w : Figure) → rank h ≢ rank w → due h w ≡ option.Some (smaller h w)
due_some h w e = cond-false _ _ _ (ne_eqb (rank h) (rank w) e)

module _ (F : Table → Table) (held right : List Figure) (pairs : List (Option Figure)) where
  pub kept_dues : Kept F held right pairs → Dues held right pairs
  kept_dues k q =
      ⊎_elim
      (λ e. k.queued.consistent q (e ∙ k.rights q) ∙ sym (due_none (get_or held q None) (get_or right q None) e))
      (λ n.
      let i = k.queued.inconsistent q (λ e. n (e ∙ sym (k.rights q))) in
      let same : i.0 ≡ smaller (get_or held q None) (get_or right q None) = same_rank _ _ (omega (arith, i.2, rank_smaller (get_or held q None) (get_or right q None), k.rights q)) in
      i.1 ∙ ap option.Some same ∙ sym (due_some (get_or held q None) (get_or right q None) n))
      (cases_eq (table held q) (table right q))

  pub dues_kept : length held ≤ length pairs → ((q : ℕ) → table right q ≡ F (table held) q) → Dues held right pairs → Kept F held right pairs
  dues_kept room rights dues = record {
    room = room;
    rights = rights;
    queued = record {
      consistent = λ q e. dues q ∙ due_none (get_or held q None) (get_or right q None) (e ∙ sym (rights q));
      inconsistent = λ q n. (
        smaller (get_or held q None) (get_or right q None),
        dues q ∙ due_some (get_or held q None) (get_or right q None) (λ e. n (e ∙ rights q)),
        omega (arith, rank_smaller (get_or held q None) (get_or right q None), rights q),
      );
    };
  }

  pub stale_none : Stale F held right pairs (λ _. false) → Kept F held right pairs
  stale_none t = dues_kept t.room (λ q. ⊎_elim (λ m. absurd (true≢false (sym m))) (λ e. e) (t.rights q)) t.dues

  pub stale_weaker : (P Q : State) → ((q : ℕ) → P q ≡ true → Q q ≡ true) → Stale F held right pairs P → Stale F held right pairs Q
  stale_weaker P Q le t = record { room = t.room; rights = λ q. ⊎_elim (λ m. inl (le q m)) (λ e. inr e) (t.rights q); dues = t.dues }

  -- an empty queue: every item is consistent
  pub empty_solves : Kept F held right pairs → vacant pairs ≡ true → Solves F (table held)
  empty_solves k e q =
      ⊎_elim
      (λ i. i)
      (λ i. absurd (none_some (vacant_empty pairs e q) (k.queued.inconsistent q i).1))
      (cases_eq (table held q) (F (table held) q))

struck_other : (s : ℕ) (P : State) (q : ℕ) → q ≢ s → P q ≡ true → struck s P q ≡ true
struck_other s P q o e = ap₂ (λ a b. not a && b) (ne_eqb s q (λ i. o (sym i))) e

module _ (F : Table → Table) (held right : List Figure) (pairs : List (Option Figure)) (P : State) (t : Stale F held right pairs P) (s : ℕ) where
  -- item s is made right, and its pair with it
  pub stale_more : (after : List Figure) (next : List (Option Figure)) (f : Figure) → s < length held → length right ≡ length held → rank f ≡ F (table held) s → after ≡ set right s f → next ≡ set pairs s (due (get_or held s None) f) → Stale F held after next (struck s P)
  stale_more after next f h long solves ra pa =
      record {
        room = omega (arith, t.room, ap length pa ∙ length-set pairs s (due (get_or held s None) f));
        rights = λ r.
            ⊎_elim
            (λ i. inr (subst (λ u. table after u ≡ F (table held) u) (sym i) (ap (λ l. table l s) ra ∙ table_same right s f (omega arith) ∙ solves)))
            (λ o. ⊎_elim (λ m. inl (struck_other s P r o m)) (λ e. inr (ap (λ l. table l r) ra ∙ table_other right s f r o ∙ e)) (t.rights r))
            (cases_eq r s);
        dues = λ r.
            ⊎_elim
            (λ i. subst (λ u. at next u ≡ due (get_or held u None) (get_or after u None)) (sym i)
            (ap (λ p. at p s) pa ∙ get_or-set_same pairs s (due (get_or held s None) f) option.None (omega (arith, t.room))
            ∙ ap (due (get_or held s None)) (sym (ap (λ l. get_or l s None) ra ∙ get_or-set_same right s f None (omega arith)))))
            (λ o. ap (λ p. at p r) pa ∙ get_or-set_other pairs s r _ option.None o ∙ t.dues r ∙ ap (due (get_or held r None)) (sym (ap (λ l. get_or l r None) ra ∙ get_or-set_other right s r f None o)))
            (cases_eq r s);
      }

  -- what is no item is right
  pub stale_skip : length held ≤ s → length right ≡ length held → F (table held) s ≡ top → Stale F held right pairs (struck s P)
  stale_skip h long beyond = record {
    room = t.room;
    rights = λ r.
        ⊎_elim
        (λ i. inr (subst (λ u. table right u ≡ F (table held) u) (sym i) (table_past right s (omega arith) ∙ sym beyond)))
        (λ o. ⊎_elim (λ m. inl (struck_other s P r o m)) (λ e. inr e) (t.rights r))
        (cases_eq r s);
    dues = t.dues;
  }

pub nothing : (n r : ℕ) → get_or (replicate n None) r None ≡ None
nothing n r = ⊎_elim (λ h. get_or-replicate n r None None h) (λ h. get_or_past (replicate n None) r None (omega (arith, h, length-replicate n None))) (cases_lt r n)

-- at the opening every item may be stale
pub stale_start : (F : Table → Table) (n : ℕ) (pairs : List (Option Figure)) → vacant pairs ≡ true → n ≤ length pairs → Stale F (replicate n None) (replicate n None) pairs (λ _. true)
stale_start F n pairs e room = record {
  room = omega (arith, room, length-replicate n None);
  rights = λ q. inl refl;
  dues = λ q. vacant_empty pairs e q ∙ sym (ap (λ f. due f f) (nothing n q));
}

-- what is past the last item is right
pub stale_past : (F : Table → Table) (held right : List Figure) (pairs : List (Option Figure)) (n : ℕ) → ((q : ℕ) → n ≤ q → F (table held) q ≡ top) → length right ≤ n → Stale F held right pairs (λ q. leb n q) → Kept F held right pairs
stale_past F held right pairs n beyond long t =
    dues_kept F held right pairs t.room
    (λ q. ⊎_elim (λ m. let h = leb-true n q m in table_past right q (omega arith) ∙ sym (beyond q h)) (λ e. e) (t.rights q))
    t.dues

-- item n struck, the stale ones begin one further
pub struck_from : (n q : ℕ) → struck n (λ r. leb n r) q ≡ true → leb (n + 1) q ≡ true
struck_from n q e =
    ⊎_elim
    (λ i. absurd (true≢false (sym e ∙ ap (λ a. not a && leb n q) (eq-eqb n q i))))
    (λ o. let h = leb-true n q (sym (ap (λ a. not a && leb n q) (ne_eqb n q o)) ∙ e) in le-leb (n + 1) q (omega arith))
    (cases_eq n q)
