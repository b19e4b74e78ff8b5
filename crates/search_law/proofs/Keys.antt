-- Keys of rows, and what queueing a row does. Assumes nothing.
use Rattle.std.proofs.Common.{◌≡◌, ℕ, ◌+◌, ◌<◌, ◌≤◌, true, List, length, is_some, Some, None, Option, refl, ap, arith, length-set, get_or-set_other, get_or-set_same}
use Rattle.figure.specs.declared.figure.Figure.{Figure}
use Rattle.figure.specs.declared.figure.Figure.TheVariants.{None as Never, Number}
use Rattle.figure.specs.Ranks.{rank, top, number_of}
use Rattle.queue.specs.declared.key.Pair.{Pair}
use Rattle.queue.specs.Keys.{pair_leq}
use Rattle.queue.specs.Queues.{at}
use Rattle.queue.proofs.Tables.{none_some, some_some}
use Rattle.std.proofs.lemmas.Bool.Decides.{nat_tests}
use Rattle.search_theory.proofs.Walk.{differ}
use Rattle.search_law.specs.Views.{key_of}
use Rattle.search_law.specs.Boards.{enqueued}

pub no_key : (n : ℕ) (h : Figure) → key_of n h ≡ None → rank h ≡ top
no_key n Never e = refl
no_key n (Number m) e = absurd (none_some e refl)

pub one_key : (n m : ℕ) (h : Figure) (k : Pair) → key_of n h ≡ Some k → key_of m h ≡ None → ⊥
one_key n m Never k e f = none_some refl e
one_key n m (Number x) k e f = none_some f refl

pub key_first : (n : ℕ) (h : Figure) (k : Pair) → key_of n h ≡ Some k → k.first ≡ n + rank h
key_first n Never k e = absurd (none_some refl e)
key_first n (Number x) k e =
    let f : k ≡ record { first = n + x.value; second = x.value } = some_some e refl in
    ap (λ z. z.first) f

pub key_low : (n : ℕ) (h : Figure) (k : Pair) → key_of n h ≡ Some k → rank h < top
key_low n Never k e = absurd (none_some refl e)
key_low n (Number x) k e = omega (arith, x.within)

-- the key of a figure that is a number
pub key_number : (n m : ℕ) (h : Figure) → number_of h ≡ Some m → key_of n h ≡ Some (record { first = n + m; second = m })
key_number n m Never e = absurd (none_some {x = m} refl e)
key_number n m (Number x) e = let f : x.value ≡ m = some_some refl e in ap (λ z. Some (record { first = n + z; second = z })) f

pub number_low : (h : Figure) (m : ℕ) → number_of h ≡ Some m → m ≤ 2000000
number_low Never m e = absurd (none_some {x = m} refl e)
number_low (Number x) m e = let f : x.value ≡ m = some_some refl e in omega (arith, x.within)

pub key_none : (n : ℕ) (h : Figure) → number_of h ≡ None → key_of n h ≡ None
key_none n Never e = refl
key_none n (Number x) e = absurd (none_some {x = x.value} e refl)

pub some_of : {X : Type 0} (o : Option X) → is_some o ≡ true → (x : X) × (o ≡ Some x)
some_of None e = absurd (differ e refl)
some_of (Some x) e = (x, refl)

pub pair_first : (k x : Pair) → pair_leq k x ≡ true → k.first ≤ x.first
pair_first k x e = grind (arith, nat_tests)

module _ (t : List (Option Pair)) (j : ℕ) where
  pub enq_long : (o : Option Pair) → length (enqueued t j o) ≡ length t
  enq_long None = refl
  enq_long (Some k) = length-set t j (Some k)

  pub enq_other : (o : Option Pair) (k : ℕ) → (k ≡ j → ⊥) → at (enqueued t j o) k ≡ at t k
  enq_other None k ne = refl
  enq_other (Some x) k ne = get_or-set_other t j k (Some x) None ne

  pub enq_here : (x : Pair) → j < length t → at (enqueued t j (Some x)) j ≡ Some x
  enq_here x lt = get_or-set_same t j (Some x) None lt
