-- Lists of facts made fact by fact. Assumes nothing.
use Rattle.std.proofs.Common.{◌≡◌, ℕ, zero, suc, ◌+◌, ◌-◌, ◌<◌, ◌≤◌, List, [], ◌∷◌, length, get_or, take, Ok, Err, length-take, sym, ap, ◌∙◌, subst, subst₂, arith}
use Rattle.std.proofs.lemmas.List.{take_all, length-take-le, get_or-take}
use Rattle.model.specs.Strips.{Rising}
use Rattle.strips.specs.declared.list.FactList.{FactList}
use Rattle.strips.specs.declared.fault.ListFault.{ListFault}
use Rattle.strips.specs.declared.fault.ListFault.TheVariants.{Full, NotRising}
use Rattle.strips.specs.Lists.{listed, Pushed, Taken}
use Rattle.strips.proofs.Keeping.{listed_few, listed_rising}

-- a rising list rises at each place
rising_at : (xs : List ℕ) (k : ℕ) → Rising xs → k + 1 < length xs → get_or xs k 0 < get_or xs (k + 1) 0
rising_at [] k h lt = absurd (omega arith)
rising_at (x ∷ []) k h lt = absurd (omega arith)
rising_at (x ∷ y ∷ xs) zero h lt = h.0
rising_at (x ∷ y ∷ xs) (suc k) h lt =
    let e : suc k + 1 ≡ suc (k + 1) = omega arith in
    subst (λ n. get_or (y ∷ xs) k 0 < get_or (x ∷ y ∷ xs) n 0) (sym e) (rising_at (y ∷ xs) k h.1 (omega arith))

-- every fact has joined
pub all_taken : {n : ℕ} (l : FactList n) (facts : List ℕ) (i : ℕ) → length facts ≤ i → listed l ≡ take i facts → Taken facts (Ok l)
all_taken {n} l facts i past e =
    let same = e ∙ take_all i facts past in
    (subst (λ xs. length xs ≤ n) same (listed_few l), subst Rising same (listed_rising l), same)

-- the first that could not join
pub refused : {n : ℕ} (l : FactList n) (facts after : List ℕ) (i : ℕ) (fault : ListFault) → i < length facts → listed l ≡ take i facts → Pushed n (listed l) (get_or facts i 0) after (Err fault) → Taken {n = n} facts (Err fault)
refused {n} l facts after i Full lt e h =
    let long : length (listed l) ≡ i = ap length e ∙ length-take-le i facts (omega arith) in
    let few = listed_few l in
    let full : i ≡ n = omega (arith, h.0) in
    (omega arith, subst (λ k. Rising (take k facts)) full (subst Rising e (listed_rising l)))
refused {n} l facts after i NotRising lt e h =
    let long : length (listed l) ≡ i = ap length e ∙ length-take-le i facts (omega arith) in
    let room : i < n = omega (arith, h.0) in
    λ rising.
    h.1 (λ pos.
    let last : get_or (listed l) (length (listed l) - 1) 0 ≡ get_or facts (i - 1) 0 = ap (λ xs. get_or xs (length (listed l) - 1) 0) e ∙ ap (λ k. get_or (take i facts) (k - 1) 0) long ∙ get_or-take i facts (i - 1) 0 (omega arith) in
    let next : i - 1 + 1 ≡ i = omega arith in
    let step = rising_at (take n facts) (i - 1) rising (simp length-take (omega arith)) in
    subst₂ ◌<◌ (get_or-take n facts (i - 1) 0 (omega arith) ∙ sym last) (ap (λ k. get_or (take n facts) k 0) next ∙ get_or-take n facts i 0 room) step)
