-- Values by what they are at most. Assumes nothing.
--
--   Most      a value is at most n
--   Reads     whether a set costs at most m is decided by what its facts cost at most, up to m
use Rattle.std.proofs.Common.{◌≡◌, ℕ, ◌+◌, ◌≤◌, ◌⊎◌, List, [], ◌∷◌, refl, ap, inl, inr, ⊎_elim, arith}
use Rattle.std.specs.List.{AllByRecursion}
use Rattle.std.proofs.ByRecursion.{All-weaker}
use Rattle.std.proofs.lemmas.Bool.{cases_lt}
use Rattle.model.specs.Heuristics.{Value, plus, larger, smaller, SetCost, sum_of, largest_of}
use Rattle.model.specs.Heuristics.Value.{finite, infinite}

abbrev pub Most : Value → ℕ → Type 0
Most (finite m) n = m ≤ n
Most infinite n = ⊥

-- ---- what the operations keep
pub plus_parts : (u v : Value) (m : ℕ) → Most (plus u v) m → (a : ℕ) × (b : ℕ) × Most u a × Most v b × (a + b ≤ m)
plus_parts infinite v m h = absurd h
plus_parts (finite a) infinite m h = absurd h
plus_parts (finite a) (finite b) m h = (a, b, omega arith, omega arith, h)

pub plus_most : (u v : Value) (a b m : ℕ) → Most u a → Most v b → a + b ≤ m → Most (plus u v) m
plus_most infinite v a b m h k l = absurd h
plus_most (finite c) infinite a b m h k l = absurd k
plus_most (finite c) (finite d) a b m h k l = omega arith

larger_parts : (u v : Value) (m : ℕ) → Most (larger u v) m → Most u m × Most v m
larger_parts infinite v m h = absurd h
larger_parts (finite a) infinite m h = absurd h
larger_parts (finite a) (finite b) m h = (omega arith, omega arith)

larger_most : (u v : Value) (m : ℕ) → Most u m → Most v m → Most (larger u v) m
larger_most infinite v m h k = absurd h
larger_most (finite c) infinite m h k = absurd k
larger_most (finite c) (finite d) m h k = omega arith

pub smaller_cases : (u v : Value) (m : ℕ) → Most (smaller u v) m → Most u m ⊎ Most v m
smaller_cases infinite v m h = inr h
smaller_cases (finite a) infinite m h = inl h
smaller_cases (finite a) (finite b) m h = ⊎_elim (λ l. inl (omega arith)) (λ l. inr (omega arith)) (cases_lt a b)

pub smaller_left : (u v : Value) (m : ℕ) → Most u m → Most (smaller u v) m
smaller_left infinite v m h = absurd h
smaller_left (finite a) infinite m h = h
smaller_left (finite a) (finite b) m h = omega arith

pub smaller_right : (u v : Value) (m : ℕ) → Most v m → Most (smaller u v) m
smaller_right infinite v m h = h
smaller_right (finite a) infinite m h = absurd h
smaller_right (finite a) (finite b) m h = omega arith

pub same_value : (u v : Value) → ((m : ℕ) → Most u m → Most v m) → ((m : ℕ) → Most v m → Most u m) → u ≡ v
same_value infinite infinite h k = refl
same_value infinite (finite b) h k = absurd (k b (omega arith))
same_value (finite a) infinite h k = absurd (h a (omega arith))
same_value (finite a) (finite b) h k =
    let l : b ≤ a = h a (omega arith) in
    let m : a ≤ b = k b (omega arith) in
    let e : a ≡ b = omega arith in
    ap finite e

-- ---- a way to cost sets
-- of each fact listed: where g makes it at most k, up to m, so does h
abbrev pub Follows : (ℕ → Value) → (ℕ → Value) → ℕ → ℕ → Type 0
Follows g h m f = (k : ℕ) → k ≤ m → Most (g f) k → Most (h f) k

abbrev pub Reads : SetCost → Type 0
Reads cost = (g h : ℕ → Value) (l : List ℕ) (m : ℕ) → AllByRecursion (Follows g h m) l → Most (cost g l) m → Most (cost h l) m

pub sum_reads : Reads sum_of
sum_reads g h [] m e t = t
sum_reads g h (f ∷ l) m e t =
    let (a, b, p, q, le) = plus_parts (g f) (sum_of g l) m t in
    plus_most (h f) (sum_of h l) a b m (e.0 a (omega arith) p)
    (sum_reads g h l b (All-weaker (Follows g h m) (Follows g h b) (λ i w k o. w k (omega arith)) l e.1) q) le

pub largest_reads : Reads largest_of
largest_reads g h [] m e t = t
largest_reads g h (f ∷ l) m e t =
    let (p, q) = larger_parts (g f) (largest_of g l) m t in
    larger_most (h f) (largest_of h l) m (e.0 m (omega arith) p) (largest_reads g h l m e.1 q)
