-- The way back from a row is written as a plan. Assumes nothing.
use Rattle.std.proofs.Common.{◌≡◌, ℕ, zero, suc, ◌-◌, ◌<◌, ◌≤◌, List, ◌∷◌, length, get_or, take, drop, set, sym, refl, ap, ◌∙◌, subst, arith, length-set, length-take-le, drop-cons, get_or-set_same, drop-set-lt}
use lib.Seq.{take-set-lt}
use Rattle.model.specs.Strips.{State, Problem, Plan}
use Rattle.rows.specs.declared.row.Row.{Row}
use Rattle.rows.specs.Rows.{blank}
use Rattle.search_theory.specs.Rows.{Recorded}
use Rattle.search_law.specs.Views.{view}
use Rattle.search_law.specs.Boards.{Depth, way_back}

pub depth_on : (rows : List Row) (n i : ℕ) → Depth rows n i → 0 < n → 0 < i
depth_on rows zero i d pos = absurd (omega (arith, pos))
depth_on rows (suc n) i d pos = d.0

pub depth_pos : (rows : List Row) (n i : ℕ) → Depth rows n i → 0 < i → 0 < n
depth_pos rows zero i d pos = absurd (omega (arith, d))
depth_pos rows (suc n) i d pos = omega arith

pub depth_less : (rows : List Row) (n i : ℕ) → Depth rows n i → 0 < i → Depth rows (n - 1) (get_or rows i blank).from
depth_less rows zero i d pos = absurd (omega (arith, d))
depth_less rows (suc n) i d pos = let e : n ≡ suc n - 1 = omega arith in subst (λ m. Depth rows m (get_or rows i blank).from) e d.1

-- one step of the way back is written in front
pub front_step : (out : List ℕ) (x at n : ℕ) → 0 < at → at ≤ n → n ≤ length out → drop (at - 1) (take n (set out (at - 1) x)) ≡ x ∷ drop at (take n out)
front_step out x at n some le fits =
    let more : suc (at - 1) ≡ at = omega arith in
    let long = length-take-le n out fits in
    let inside : at - 1 < length (take n out) = omega arith in
    ap (drop (at - 1)) (take-set-lt n out (at - 1) x (omega arith))
    ∙ drop-cons (set (take n out) (at - 1) x) (at - 1) 0 (rw (length-set (take n out) (at - 1) x) inside)
    ∙ ap (λ v. v ∷ drop (suc (at - 1)) (set (take n out) (at - 1) x)) (get_or-set_same (take n out) (at - 1) x 0 inside)
    ∙ ap (λ l. x ∷ l) (drop-set-lt (suc (at - 1)) (take n out) (at - 1) x (omega arith) ∙ ap (λ m. drop m (take n out)) more)

pub back_step : (rows : List Row) (n i : ℕ) (rest : List ℕ) → Depth rows n i → 0 < i → way_back rows n i rest ≡ way_back rows (n - 1) (get_or rows i blank).from ((get_or rows i blank).action ∷ rest)
back_step rows zero i rest d pos = absurd (omega (arith, d))
back_step rows (suc n) i rest d pos = let e : n ≡ suc n - 1 = omega arith in ap (λ m. way_back rows m (get_or rows i blank).from ((get_or rows i blank).action ∷ rest)) e

pub back_done : (rows : List Row) (n i : ℕ) (rest : List ℕ) → Depth rows n i → i ≡ 0 → (n ≡ 0) × (way_back rows n i rest ≡ rest)
back_done rows zero i rest d z = (refl, refl)
back_done rows (suc n) i rest d z = absurd (omega (arith, d.0))

-- the way back from a row, and what is a plan from there, are a plan
pub back_plan : (p : Problem) (s : State) (rows : List Row) (used : ℕ) → Recorded p s (view rows used) → (n i : ℕ) (rest : List ℕ) → i < used → Depth rows n i → Plan p ((view rows used).row i).state rest → Plan p s (way_back rows n i rest)
back_plan p s rows used b zero i rest lt d plan = subst (λ u. Plan p u rest) (ap (λ k. ((view rows used).row k).state) d ∙ b.start) plan
back_plan p s rows used b (suc n) i rest lt d plan =
    let c = b.came i d.0 lt in
    let on = subst (λ u. Plan p u rest) (sym c.is) plan in
    back_plan p s rows used b n (get_or rows i blank).from ((get_or rows i blank).action ∷ rest) c.within d.1 ((c.may, on.0), on.1)

pub came_facts : (p : Problem) (s : State) (rows : List Row) (used : ℕ) → Recorded p s (view rows used) → (k : ℕ) → 0 < k → k < used → ((get_or rows k blank).from < used) × ((get_or rows (get_or rows k blank).from blank).steps < (get_or rows k blank).steps)
came_facts p s rows used b k pos lt = let c = b.came k pos lt in (c.within, omega (arith, c.less))
