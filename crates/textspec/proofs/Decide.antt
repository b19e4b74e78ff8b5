-- The text's first line states bytes or has a fault.
use Rattle.std.proofs.Common.{◌≡◌, ℕ, zero, suc, ◌+◌, ◌-◌, ◌%◌, ◌<◌, ◌≤◌, Bool, true, false, cond, ◌||◌, eqb, leb, ◌⊎◌, List, length, get_or, take, drop, refl, inl, inr, ⊎_elim, arith}
use Rattle.std.proofs.lemmas.List.{length-take-le}
use Rattle.std.proofs.lemmas.Bool.{cases_Bool, cases_eq, leb-false, eqb-true, eqb-false, or_parts, both_ways}
use Rattle.textspec.specs.Hex.{is_digit, bytes, digits_only, fault_at, DigitsBefore, FirstFault, LineIs}
use Rattle.textspec.proofs.Hexes.{taken, line_there, length_bytes, bytes_small, before_more}

-- where reading by column stops
record Stop (xs : List ℕ) : Type 0 where
  column : ℕ
  from : 1 ≤ column
  upto : column ≤ 515
  before : DigitsBefore xs column
  stop : (column ≡ 515) ⊎ (is_digit (get_or xs (column - 1) 0) ≡ false)

find : (fuel column : ℕ) (xs : List ℕ) → column + fuel ≡ 515 → 1 ≤ column → DigitsBefore xs column → Stop xs
find zero column xs e f b = record { column = column; from = f; upto = omega arith; before = b; stop = inl (omega arith) }
find (suc fuel) column xs e f b =
    ⊎_elim
    (λ t. find fuel (column + 1) xs (omega arith) (omega arith) (before_more xs column f b t))
    (λ t. record { column = column; from = f; upto = omega arith; before = b; stop = inr t })
    (cases_Bool (is_digit (get_or xs (column - 1) 0)))

parts : (past end odd d last : Bool) → ◌≡◌ {A = ℕ} (cond past 7 (cond end (cond odd 1 0) (cond d (cond last 2 0) 1))) 0
    → (past ≡ false) × (((end ≡ true) × (odd ≡ false)) ⊎ ((d ≡ true) × (last ≡ false)))
parts true end odd d last e = absurd (omega arith)
parts false true true d last e = absurd (omega arith)
parts false true false d last e = (refl, inl (refl, refl))
parts false false odd true true e = absurd (omega arith)
parts false false odd true false e = (refl, inr (refl, refl))
parts false false odd false last e = absurd (omega arith)

pub record ALine (xs : List ℕ) : Type 0 where
  pub bytes : List ℕ
  pub rest : List ℕ
  pub line : LineIs xs rest bytes

pub record AFault (xs : List ℕ) : Type 0 where
  pub number : ℕ
  pub column : ℕ
  pub first : FirstFault xs number column

module _ (xs : List ℕ) (s : Stop xs) where
  whole : s.column ≤ length xs → get_or xs (s.column - 1) 0 ≡ 10 → 1 < s.column → s.column % 2 ≡ 1 → ALine xs
  whole in-text end more odd =
      let n = s.column - 1 in
      let u = s.upto in
      let all : digits_only (take n xs) ≡ true = taken xs n (λ k h. s.before k (omega arith)) in
      let size = length-take-le n xs (omega arith) in
      let l = length_bytes (take n xs) in
      record {
        bytes = bytes (take n xs);
        rest = drop (n + 1) xs;
        line = record {
          is = line_there xs n (omega arith) (omega arith) all end;
          sized = record { some = omega arith; few = omega arith; small = bytes_small (take n xs) all };
        };
      }

  clean : fault_at xs s.column ≡ 0 → ALine xs
  clean e =
      let c = s.column in
      let p = parts (leb (length xs + 1) c) (eqb (get_or xs (c - 1) 0) 10) (eqb c 1 || eqb (c % 2) 0) (is_digit (get_or xs (c - 1) 0)) (eqb c 515) e in
      let past : c < length xs + 1 = leb-false (length xs + 1) c p.0 in
      ⊎_elim
      (λ q.
      let o = or_parts (eqb c 1) (eqb (c % 2) 0) q.1 in
      let a = eqb-false c 1 o.0 in
      let b = eqb-false (c % 2) 0 o.1 in
      let f = s.from in
      let m : c % 2 ≡ 1 = ⊎_elim (λ z. absurd (b z)) (λ z. omega arith) (cases_eq (c % 2) 0) in
      let g : 1 < c = ⊎_elim (λ z. absurd (a z)) (λ z. omega arith) (cases_eq c 1) in
      whole (omega arith) (eqb-true _ _ q.0) g m)
      (λ q. absurd (⊎_elim (λ z. eqb-false c 515 q.1 z) (λ z. both_ways _ z q.0) s.stop))
      p.1

  decided : ALine xs ⊎ AFault xs
  decided =
      ⊎_elim
      (λ e. inl (clean e))
      (λ ne. inr (record {
        number = fault_at xs s.column;
        column = s.column;
        first = record { from = s.from; upto = s.upto; before = s.before; here = refl; fault = ⊎_elim (λ z. absurd (ne z)) (λ z. omega arith) (cases_eq (fault_at xs s.column) 0) };
      }))
      (cases_eq (fault_at xs s.column) 0)

pub decide : (xs : List ℕ) → ALine xs ⊎ AFault xs
decide xs = decided xs (find 514 1 xs refl (omega arith) (λ k l. absurd (omega arith)))
