-- Lemmas on pairs taken one after another. Assumes nothing.
use Rattle.std.proofs.Common.{◌≡◌, ℕ, Bool, true, List, [], ◌∷◌, ◌++◌, length, set, replicate, Some, None, Option, sym, ap, ◌∙◌, length-set}
use Rattle.queue.specs.Queues.{at, vacant, Removes, Ascends, Smallest, Drained}
use Rattle.queue.proofs.Tables.{at_without, vacant_fresh}

module _ {K : Type 0} where
  pub removes_more : (t : List (Option K)) (l : List (ℕ × K)) (u : List (Option K)) (p : ℕ × K) → Removes t l u → at u p.0 ≡ Some p.1 → Removes t (l ++ p ∷ []) (set u p.0 None)
  removes_more t [] u p r e = (ap (λ w. at w p.0) (sym r) ∙ e, ap (λ w. set w p.0 None) r)
  removes_more t (q ∷ l) u p r e = (r.0, removes_more (set t q.0 None) l u p r.1 e)

  pub removes_length : (t : List (Option K)) (l : List (ℕ × K)) (u : List (Option K)) → Removes t l u → length u ≡ length t
  removes_length t [] u r = ap length r
  removes_length t (q ∷ l) u r = removes_length (set t q.0 None) l u r.1 ∙ length-set t q.0 None

  pub drained : (t : List (Option K)) (l : List (ℕ × K)) (u : List (Option K)) → Removes t l u → vacant u ≡ true → Drained t l u
  drained t l u r e = (r, vacant_fresh u e ∙ ap (λ n. replicate n None) (removes_length t l u r))

  module _ (leq : K → K → Bool) where
    -- keys that never fall, the last at most every key still held
    abbrev pub Ahead : List (ℕ × K) → List (Option K) → Type 0
    Ahead [] u = Unit {0}
    Ahead (p ∷ []) u = (i : ℕ) (x : K) → at u i ≡ Some x → leq p.1 x ≡ true
    Ahead (p ∷ q ∷ l) u = (leq p.1 q.1 ≡ true) × Ahead (q ∷ l) u

    pub ahead_ascends : (l : List (ℕ × K)) (u : List (Option K)) → Ahead l u → Ascends leq l
    ahead_ascends [] u h = tt
    ahead_ascends (p ∷ []) u h = tt
    ahead_ascends (p ∷ q ∷ l) u h = (h.0, ahead_ascends (q ∷ l) u h.1)

    pub ahead_more : (l : List (ℕ × K)) (u : List (Option K)) (p : ℕ × K) → Ahead l u → at u p.0 ≡ Some p.1 → Smallest leq u (Some p) → Ahead (l ++ p ∷ []) (set u p.0 None)
    ahead_more [] u p h e s = λ i x q. s i x (at_without u p.0 i x q)
    ahead_more (a ∷ []) u p h e s = (h p.0 p.1 e, λ i x q. s i x (at_without u p.0 i x q))
    ahead_more (a ∷ b ∷ l) u p h e s = (h.0, ahead_more (b ∷ l) u p h.1 e s)
