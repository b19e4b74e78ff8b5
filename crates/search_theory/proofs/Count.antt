-- How many states can be reached, and what falls with each turn. Assumes nothing.
use mathlib.Core.Path.{◌≡◌, refl, sym, ap, subst, ◌∙◌}
use mathlib.Core.Bool.{Bool, true, false, cond}
use mathlib.Core.List.{List, [], ◌∷◌, ◌++◌}
use Prim.Native.Nat.{ℕ, zero, suc, ◌+◌, ◌<◌, ◌≤◌}
use native.Mathlib.Omega.{arith}
use native.Mathlib.Decide.{ℕ_discrete, dec_lt}
use lib.Dec.{ltb}
use borrow.Author.Tests.{lt-ltb, le-ltb}
use Rattle.model.specs.Strips.{State, Problem, May, step, Path, after, Reachable}
use Rattle.search_theory.specs.Rows.{Rows, Queued}
use Rattle.search_theory.specs.Frontiers.{Room}
use Rattle.search_theory.specs.Turns.{Only}
use Rattle.search_theory.specs.Measure.{weight, sum_to, potential, FallsTaken, FallsBetter, FallsNew}
use Rattle.search_theory.proofs.Walk.{reached}

-- one action more
path_more : (p : Problem) (acts : List ℕ) (s : State) (a : ℕ) → Path p s acts → May p a (after p s acts) → Path p s (acts ++ a ∷ [])
path_more p [] s a on may = (may, tt)
path_more p (b ∷ acts) s a on may = (on.0, path_more p acts (step p b s) a on.1 may)

after_more : (p : Problem) (acts : List ℕ) (s : State) (a : ℕ) → after p s (acts ++ a ∷ []) ≡ step p a (after p s acts)
after_more p [] s a = refl
after_more p (b ∷ acts) s a = after_more p acts (step p b s) a

pub onward : (p : Problem) (s u : State) (a : ℕ) → Reachable p s u → May p a u → Reachable p s (step p a u)
onward p s u a (acts, on, is) may = (acts ++ a ∷ [], path_more p acts s a on (subst (May p a) (sym is) may), after_more p acts s a ∙ ap (step p a) is)

-- the states of the rows in use, and then the new one
module _ (r : Rows) (next : State) where
  listed : ℕ → State
  listed k = cond (ltb k r.used) (r.row k).state next

  listed_old : (k : ℕ) → k < r.used → listed k ≡ (r.row k).state
  unfolding listed
  listed_old k lt = rw (lt-ltb k r.used lt)

  listed_new : (k : ℕ) → r.used ≤ k → listed k ≡ next
  unfolding listed
  listed_new k le = rw (le-ltb k r.used le)

pub room : Room
room p s r k i a o =
    let next = step p a (r.row i).state in
    let old = listed_old r next in
    let new = listed_new r next in
    record {
      state = listed r next;
      apart = λ m n ml nl e. elim (dec_lt m r.used) [
        | yes mu ↦ elim (dec_lt n r.used) [
          | yes nu ↦ k.apart m n mu nu (sym (old m mu) ∙ e ∙ old n nu)
          | no nu ↦ absurd (o.new m mu (sym (old m mu) ∙ e ∙ new n (omega arith)))
        ]
        | no mu ↦ elim (dec_lt n r.used) [
          | yes nu ↦ absurd (o.new n nu (sym (old n nu) ∙ sym e ∙ new m (omega arith)))
          | no nu ↦ omega arith
        ]
      ];
      reached = λ m ml. elim (dec_lt m r.used) [
        | yes mu ↦ subst (Reachable p s) (sym (old m mu)) (reached p s r k m mu)
        | no mu ↦ subst (Reachable p s) (sym (new m (omega arith))) (onward p s (r.row i).state a (reached p s r k i o.within) o.may)
      ];
    }

sum_le : (w v : ℕ → ℕ) (n : ℕ) → ((j : ℕ) → j < n → w j ≤ v j) → sum_to w n ≤ sum_to v n
sum_le w v zero h = omega arith
sum_le w v (suc n) h = omega (arith, h n (omega arith), sum_le w v n (λ j lt. h j (omega arith)))

sum_falls : (w v : ℕ → ℕ) (n i : ℕ) → i < n → w i < v i → ((j : ℕ) → j < n → w j ≤ v j) → sum_to w n < sum_to v n
sum_falls w v zero i lt less h = absurd (omega arith)
sum_falls w v (suc n) i lt less h =
    elim (ℕ_discrete i n) [
      | yes e ↦ omega (arith, sum_le w v n (λ j l. h j (omega arith)), subst (λ j. w j < v j) e less)
      | no ne ↦ omega (arith, h n (omega arith), sum_falls w v n i (omega arith) less (λ j l. h j (omega arith)))
    ]

one : (b : Bool) → cond b 1 0 ≤ 1
one true = omega arith
one false = omega arith

in_use : (n : ℕ) (r : Rows) (q : Queued) (i : ℕ) → i < r.used → weight n r q i ≡ (r.row i).steps + (r.row i).steps + cond (q i) 1 0
in_use n r q i lt = rw (lt-ltb i r.used lt)

free : (n : ℕ) (r : Rows) (q : Queued) (i : ℕ) → r.used ≤ i → weight n r q i ≡ n + n + 2
free n r q i le = rw (le-ltb i r.used le)

module _ (n : ℕ) (r u : Rows) (q v : Queued) where
  falls : (i : ℕ) → i < n → weight n u v i < weight n r q i → ((j : ℕ) → (j ≡ i → ⊥) → weight n u v j ≡ weight n r q j) → potential n u v < potential n r q
  falls i lt less same =
      sum_falls (weight n u v) (weight n r q) n i lt less
      (λ j l. elim (ℕ_discrete j i) [ yes e ↦ subst (λ k. weight n u v k ≤ weight n r q k) (sym e) (omega arith) | no ne ↦ omega (arith, same j ne) ])

  alike : (i : ℕ) → Only r u q v i → u.used ≡ r.used → (j : ℕ) → (j ≡ i → ⊥) → weight n u v j ≡ weight n r q j
  alike i only used j ne = cc (only.row j ne, only.queued j ne)

pub falls_taken : FallsTaken
falls_taken n r u q v i le lt only used steps was now =
    falls n r u q v i (omega arith)
    (omega (arith, in_use n u v i (omega arith), in_use n r q i lt, ap {B = ℕ} (λ b. cond b 1 0) was, ap {B = ℕ} (λ b. cond b 1 0) now))
    (alike n r u q v i only used)

pub falls_better : FallsBetter
falls_better n r u q v i le lt only used steps =
    falls n r u q v i (omega arith) (omega (arith, in_use n u v i (omega arith), in_use n r q i lt, one (v i))) (alike n r u q v i only used)

pub falls_new : FallsNew
falls_new n r u q v lt only used steps =
    falls n r u q v r.used lt (omega (arith, in_use n u v r.used (omega arith), free n r q r.used (omega arith), one (v r.used)))
    (λ j ne. elim (dec_lt j r.used) [
      | yes l ↦ in_use n u v j (omega arith) ∙ (cc (only.row j ne, only.queued j ne)) ∙ sym (in_use n r q j l)
      | no nl ↦ free n u v j (omega arith) ∙ sym (free n r q j (omega arith))
    ])
