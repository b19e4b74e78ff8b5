-- Lemmas on a scan of a table. Assumes nothing.
use Rattle.std.proofs.Common.{◌≡◌, ℕ, ◌+◌, ◌<◌, Bool, true, not, List, length, is_some, Some, None, Option, sym, refl, subst, inl, inr, arith, below_more}
use Rattle.queue.specs.Keys.{Orders}
use Rattle.queue.specs.Queues.{at, vacant, Front, Smallest}
use Rattle.queue.specs.Scans.{Found, Better}
use Rattle.queue.proofs.Tables.{none_some, some_some, at_within, empty_vacant, not_vacant, leq_refl}

module _ {K : Type 0} where
  module _ (leq : K → K → Bool) where
    pub found_skip : (t : List (Option K)) (i : ℕ) (best : Option (ℕ × K)) → at t i ≡ None → Found leq t i best → Found leq t (i + 1) best
    found_skip t i None e f = below_more _ i f e
    found_skip t i (Some p) e f =
        (let h = f.0 in omega arith, f.1, below_more (λ j. (x : K) → at t j ≡ Some x → leq p.1 x ≡ true) i f.2 (λ x q. absurd (none_some e q)))

    found_none : (t : List (Option K)) → Found leq t (length t) None → vacant t ≡ true
    found_none t f = empty_vacant t (λ j. none_of j (at t j) refl) where
      none_of : (j : ℕ) (o : Option K) → at t j ≡ o → at t j ≡ None
      none_of j None e = e
      none_of j (Some x) e = f j (at_within t j x e)

    pub found_front : (t : List (Option K)) (r : Option (ℕ × K)) → Found leq t (length t) r → Front t r
    found_front t None f = found_none t f
    found_front t (Some p) f = (f.0, f.1)

    pub found_some : (t : List (Option K)) (r : Option (ℕ × K)) → Found leq t (length t) r → vacant t ≡ not (is_some r)
    found_some t None f = found_none t f
    found_some t (Some p) f = not_vacant t p.0 p.1 f.1

    pub found_least : (t : List (Option K)) (r : Option (ℕ × K)) → Found leq t (length t) r → Smallest leq t r
    found_least t None f = tt
    found_least t (Some p) f = λ j x e. f.2 j (at_within t j x e) x e

  module _ {leq : K → K → Bool} (o : Orders leq) where
    new_best : (t : List (Option K)) (i : ℕ) (key : K) → at t i ≡ Some key → ((j : ℕ) → j < i → (x : K) → at t j ≡ Some x → leq key x ≡ true) → Found leq t (i + 1) (Some (i, key))
    new_best t i key e f =
        (omega arith, e, below_more (λ j. (x : K) → at t j ≡ Some x → leq key x ≡ true) i f (λ x q. subst (λ y. leq key y ≡ true) (some_some e q) (leq_refl o key)))

    pub found_more : (t : List (Option K)) (i : ℕ) (key : K) (best r : Option (ℕ × K)) → at t i ≡ Some key → Found leq t i best → Better leq best i key r → Found leq t (i + 1) r
    found_more t i key None r e f b = subst (Found leq t (i + 1)) (sym b) (new_best t i key e (λ j h x q. absurd (none_some (f j h) q)))
    found_more t i key (Some p) r e f (inl b) =
        subst (Found leq t (i + 1)) (sym b.0)
        (let h = f.0 in omega arith, f.1, below_more (λ j. (x : K) → at t j ≡ Some x → leq p.1 x ≡ true) i f.2 (λ x q. subst (λ y. leq p.1 y ≡ true) (some_some e q) b.1))
    found_more t i key (Some p) r e f (inr b) =
        subst (Found leq t (i + 1)) (sym b.0)
        (new_best t i key e (λ j h x q. o.trans key p.1 x b.1 (f.2 j h x q)))
