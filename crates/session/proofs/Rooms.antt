-- Dockets kept ready. Assumes nothing.
use Rattle.std.proofs.Common.{◌≡◌, ℕ, ◌+◌, ◌≤◌, Bool, true, false, cond, List, [], ◌∷◌, ◌++◌, length, vec_len, Vec, sym, ap, ◌∙◌, subst, arith}
use Rattle.std.specs.declared.alloc.Global.{Global}
use Rattle.std.specs.List.{AllByRecursion, fold, count_by}
use Rattle.std.proofs.lemmas.List.{length_push}
use Rattle.std.proofs.ByRecursion.{All-push}
use Rattle.settling.specs.declared.row.DocketRow.{DocketRow}
use Rattle.session.specs.declared.call.Call.{Call}
use Rattle.session.specs.declared.call.Call.TheVariants.{Enter, Strike, Settle, Figure, Goal}
use Rattle.session.specs.Rooms.{weight, settles, Stocked}

pub weight_low : (c : Call) → weight c ≤ 1
weight_low (Enter f) = omega arith
weight_low (Strike f) = omega arith
weight_low (Settle n) = omega arith
weight_low (Figure i) = omega arith
weight_low Goal = omega arith

abbrev pub is_settle : Call → Bool
is_settle (Settle n) = true
is_settle _ = false

counted : (cs : List Call) (n : ℕ) → fold (λ m c. m + cond (is_settle c) 1 0) n cs ≡ n + settles cs
counted [] n = omega arith
counted (Enter f ∷ cs) n = omega (arith, counted cs (n + 0))
counted (Strike f ∷ cs) n = omega (arith, counted cs (n + 0))
counted (Settle k ∷ cs) n = omega (arith, counted cs (n + 1))
counted (Figure i ∷ cs) n = omega (arith, counted cs (n + 0))
counted (Goal ∷ cs) n = omega (arith, counted cs (n + 0))

pub settles_counted : (cs : List Call) (n : ℕ) → n ≡ count_by is_settle cs → n ≡ settles cs
settles_counted cs n e = omega (arith, e ∙ counted cs 0)

pub stocked_none : (rows : ℕ) (l : List (Vec DocketRow Global)) → l ≡ [] → Stocked 0 rows l
stocked_none rows l e = record { many = ap length e; long = subst (AllByRecursion (λ d. vec_len d ≡ rows)) (sym e) tt }

pub stocked_more : (n rows : ℕ) (l m : List (Vec DocketRow Global)) (x : Vec DocketRow Global) → Stocked n rows l → m ≡ l ++ (x ∷ []) → vec_len x ≡ rows → Stocked (n + 1) rows m
stocked_more n rows l m x s e long = record {
  many = ap length e ∙ length_push l x ∙ ap (λ i. i + 1) s.many;
  long = subst (AllByRecursion (λ d. vec_len d ≡ rows)) (sym e) (All-push (λ d. vec_len d ≡ rows) l x s.long long);
}

every_left : (P : Vec DocketRow Global → Type 0) (l : List (Vec DocketRow Global)) (x : Vec DocketRow Global) → AllByRecursion P (l ++ (x ∷ [])) → AllByRecursion P l × P x
every_left P [] x h = (tt, h.0)
every_left P (y ∷ l) x h = let r = every_left P l x h.1 in ((h.0, r.0), r.1)

-- the last docket is taken
pub stocked_less : (n rows : ℕ) (l m : List (Vec DocketRow Global)) (x : Vec DocketRow Global) → Stocked (n + 1) rows l → l ≡ m ++ (x ∷ []) → Stocked n rows m × (vec_len x ≡ rows)
stocked_less n rows l m x s e =
    let r = every_left (λ d. vec_len d ≡ rows) m x (subst (AllByRecursion (λ d. vec_len d ≡ rows)) e s.long) in
    (record { many = omega (arith, s.many, ap length e ∙ length_push m x); long = r.0 }, r.1)
