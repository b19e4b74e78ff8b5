-- One turn of a settling: an item is taken from the queue and gets its next figure. Assumes nothing.
use Rattle.std.proofs.Common.{◌≡◌, ℕ, ◌<◌, true, ◌⊎◌, List, length, get_or, set, Option, sym, ap, ◌∙◌, subst, inl, inr, ⊎_elim, arith, length-set}
use Rattle.std.proofs.lemmas.List.{get_or-set_same, get_or-set_other}
use Rattle.std.proofs.lemmas.Bool.{cases_lt, cases_eq, cond-true, cond-false, leb-true, lt-ltb, le-ltb}
use Rattle.std.specs.declared.option.Option.TheVariants as option
use Rattle.figure.specs.declared.figure.Figure.{Figure}
use Rattle.figure.specs.declared.figure.Figure.TheVariants.{None}
use Rattle.figure.specs.Ranks.{rank}
use Rattle.model.specs.Strips.{State}
use Rattle.model.specs.Figures.{Table, table}
use Rattle.model.specs.Settling.{Consistent, key, NoKeyBelow, Step, next}
use Rattle.model.proofs.Ranked.{table_past}
use Rattle.queue.specs.Queues.{at}
use Rattle.queue.specs.Keys.{figure_leq}
use Rattle.queue.proofs.Tables.{none_some, some_some}
use Rattle.session_theory.specs.Kept.{Kept, due, Stale, moved}
use Rattle.session_theory.proofs.Queues.{kept_dues}

module _ (F : Table → Table) (held right : List Figure) (pairs : List (Option Figure)) (k : Kept F held right pairs) (q : ℕ) (m : Figure) (here : at pairs q ≡ option.Some m) where
  -- what is queued is inconsistent
  pub off : Consistent F (table held) q → ⊥
  off e = none_some (k.queued.consistent q e) here

  -- and an item
  pub inside : length right ≡ length held → q < length held
  inside e =
      ⊎_elim (λ h. h) (λ h. absurd (off (table_past held q h ∙ sym (sym (k.rights q) ∙ table_past right q (omega arith))))) (cases_lt q (length held))

  key_is : rank m ≡ key F (table held) q
  key_is = let i = k.queued.inconsistent q off in ap rank (some_some here i.1) ∙ i.2

  lowest : ((i : ℕ) (x : Figure) → at pairs i ≡ option.Some x → figure_leq m x ≡ true) → NoKeyBelow F (table held) (key F (table held) q)
  lowest least r =
      ⊎_elim
      (λ e. inl e)
      (λ n. let i = k.queued.inconsistent r n in inr (omega (arith, leb-true (rank m) (rank i.0) (least r i.0 i.1), i.2, key_is)))
      (cases_eq (table held r) (F (table held) r))

  moved_rank : rank (moved (get_or held q None) (get_or right q None)) ≡ next F (table held) q
  moved_rank =
      ⊎_elim
      (λ l. ap rank (cond-true _ _ _ (lt-ltb (table right q) (table held q) l)) ∙ k.rights q ∙ sym (cond-true _ _ _ (lt-ltb (F (table held) q) (table held q) (omega (arith, k.rights q, l)))))
      (λ l. ap rank (cond-false _ _ _ (le-ltb (table right q) (table held q) l)) ∙ sym (cond-false _ _ _ (le-ltb (F (table held) q) (table held q) (omega (arith, k.rights q, l)))))
      (cases_lt (table right q) (table held q))

  -- so its turn is a step of a settling
  pub stepped : length right ≡ length held → ((i : ℕ) (x : Figure) → at pairs i ≡ option.Some x → figure_leq m x ≡ true) → Step F held q (moved (get_or held q None) (get_or right q None))
  stepped long least = record { item = inside long; inconsistent = off; least = lowest least; figure = moved_rank }

-- after q's figure was written and its pair adjusted, only its readers may be stale
pub turned : (F : Table → Table) (held right : List Figure) (pairs taken next : List (Option Figure)) (q : ℕ) (f : Figure) (stale : State) → q < length held → Kept F held right pairs → taken ≡ set pairs q option.None → next ≡ set taken q (due f (get_or right q None)) → ((r : ℕ) → (stale r ≡ true) ⊎ (F (table (set held q f)) r ≡ F (table held) r)) → Stale F (set held q f) right next stale
turned F held right pairs taken next q f stale h k t e unread =
    let room : length taken ≡ length pairs = ap length t ∙ length-set pairs q option.None in
    record {
      room = omega (arith, k.room, room, length-set held q f, ap length e ∙ length-set taken q (due f (get_or right q None)));
      rights = λ r. ⊎_elim (λ i. inl i) (λ i. inr (k.rights r ∙ sym i)) (unread r);
      dues = λ r.
          ⊎_elim
          (λ i. subst (λ s. at next s ≡ due (get_or (set held q f) s None) (get_or right s None)) (sym i)
          (ap (λ p. at p q) e ∙ get_or-set_same taken q (due f (get_or right q None)) option.None (omega (arith, k.room, room)) ∙ ap (λ g. due g (get_or right q None)) (sym (get_or-set_same held q f None h))))
          (λ o. ap (λ p. at p r) e ∙ get_or-set_other taken q r _ option.None o ∙ ap (λ p. at p r) t ∙ get_or-set_other pairs q r _ option.None o ∙ kept_dues F held right pairs k r ∙ ap (λ g. due g (get_or right r None)) (sym (get_or-set_other held q r f None o)))
          (cases_eq r q);
    }

-- other facts stand: only those that came or went may be stale
pub restood : (F G : Table → Table) (held right : List Figure) (pairs : List (Option Figure)) (stale : State) → Kept F held right pairs → ((r : ℕ) → (stale r ≡ true) ⊎ (G (table held) r ≡ F (table held) r)) → Stale G held right pairs stale
restood F G held right pairs stale k unread = record {
  room = k.room;
  rights = λ r. ⊎_elim (λ i. inl i) (λ i. inr (k.rights r ∙ sym i)) (unread r);
  dues = kept_dues F held right pairs k;
}
