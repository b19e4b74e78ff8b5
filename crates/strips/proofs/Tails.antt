-- The end of a list that is the front of an array. Assumes nothing.
use Rattle.std.proofs.Common.{◌≡◌, ℕ, ◌+◌, ◌-◌, ◌<◌, ◌≤◌, List, length, get_or, take, set, sym, ap, ◌∙◌, subst, subst₂, ⊎_elim, arith, get_or-set_other, get_or-set_same}
use Rattle.std.proofs.lemmas.List.{length-take-le, get_or-take}
use Rattle.std.proofs.lemmas.Bool.{cases_lt}

-- the last of the first c numbers
pub last_taken : (xs : List ℕ) (c : ℕ) → c ≤ length xs → 0 < c → get_or (take c xs) (length (take c xs) - 1) 0 ≡ get_or xs (c - 1) 0
last_taken xs c le pos = ap (λ n. get_or (take c xs) (n - 1) 0) (length-take-le c xs le) ∙ get_or-take c xs (c - 1) 0 (omega arith)

-- one more number above the last keeps the front rising
pub rising_more : (xs : List ℕ) (c f : ℕ) → c < length xs → ((k : ℕ) → k + 1 < c → get_or xs k 0 < get_or xs (k + 1) 0) → (0 < c → get_or xs (c - 1) 0 < f) → (k : ℕ) → k + 1 < c + 1 → get_or (set xs c f) k 0 < get_or (set xs c f) (k + 1) 0
rising_more xs c f lt rising above k h =
    ⊎_elim
    (λ low. subst₂ ◌<◌ (sym (get_or-set_other xs c k f 0 (λ e. omega arith))) (sym (get_or-set_other xs c (k + 1) f 0 (λ e. omega arith))) (rising k low))
    (λ high.
    let e : k + 1 ≡ c = omega arith in
    let d : c - 1 ≡ k = omega arith in
    subst₂ ◌<◌ (sym (get_or-set_other xs c k f 0 (λ e. omega arith))) (sym (ap (λ n. get_or (set xs c f) n 0) e ∙ get_or-set_same xs c f 0 lt)) (subst (λ n. get_or xs n 0 < f) d (above (omega arith))))
    (cases_lt (k + 1) c)
