-- Every docket between two lists of figures has the same number of rows. Assumes nothing.
use Rattle.std.proofs.Common.{◌≡◌, ℕ, zero, suc, ◌+◌, ◌<◌, ◌≤◌, ◌≢◌, List, [], ◌∷◌, length, get_or, set, sym, refl, ap, ◌∙◌, subst, ⊎_elim, arith, length-set}
use Rattle.std.specs.List.{AllByRecursion}
use Rattle.std.proofs.lemmas.Bool.{cases_eq, cond-true, cond-false, eq-eqb, ne_eqb}
use Rattle.figure.specs.declared.figure.Figure.{Figure}
use Rattle.figure.specs.declared.figure.Figure.TheVariants.{None}
use Rattle.model.specs.Figures.{Table}
use Rattle.model.specs.Docket.{Row, Applies, rows_of, changes, Docket}
use Rattle.model.proofs.Causal.{total}

-- one value is one more, and the others are the same
total_more : (x y : Table) (q : ℕ) → ((r : ℕ) → r ≢ q → x r ≡ y r) → x q ≡ y q + 1 → (n : ℕ) → (n ≤ q → total n x ≡ total n y) × (q < n → total n x ≡ total n y + 1)
unfolding total
total_more x y q rest e zero = ((λ _. refl), λ h. absurd (omega arith))
total_more x y q rest e (suc n) =
    let ih = total_more x y q rest e n in
    ⊎_elim
    (λ i. ((λ h. absurd (omega arith)), λ h. omega (arith, ap x i, ap y i, ih.0 (omega arith))))
    (λ o. let same = rest n o in ((λ h. omega (arith, same, ih.0 (omega arith))), λ h. omega (arith, same, ih.1 (omega arith))))
    (cases_eq n q)

total_zero : (n : ℕ) (x : Table) → ((r : ℕ) → x r ≡ 0) → total n x ≡ 0
unfolding total
total_zero zero x h = refl
total_zero (suc n) x h = omega (arith, h n, total_zero n x h)

pub total_same : (n : ℕ) (x y : Table) → ((r : ℕ) → x r ≡ y r) → total n x ≡ total n y
unfolding total
total_same zero x y h = refl
total_same (suc n) x y h = omega (arith, h n, total_same n x y h)

pub rows_items : (x : List Figure) (rows : List Row) (y : List Figure) → Applies x rows y → AllByRecursion (λ w. w.item < length x) rows
rows_items x [] y e = tt
rows_items x (w ∷ ws) y e =
    (e.0.item, subst (λ n. AllByRecursion (λ v. v.item < n) ws) (length-set x w.item w.after) (rows_items (set x w.item w.after) ws y e.1))

counted : (n : ℕ) (rows : List Row) → AllByRecursion (λ w. w.item < n) rows → total n (λ r. length (rows_of r rows)) ≡ length rows
counted n [] e = total_zero n (λ r. 0) (λ r. refl)
counted n (w ∷ ws) e =
    let x : Table = λ r. length (rows_of r (w ∷ ws)) in
    let y : Table = λ r. length (rows_of r ws) in
    let more = (total_more x y w.item
    (λ r o. ap length (cond-false _ _ _ (ne_eqb w.item r (λ i. o (sym i)))))
    (ap length (cond-true _ _ _ (eq-eqb w.item w.item refl)) ∙ (let k : suc (length (rows_of w.item ws)) ≡ length (rows_of w.item ws) + 1 = omega arith in k))
    n).1 e.0 in
    omega (arith, more, counted n ws e.1)

-- the rows are as many as the changes
pub docket_length : (before after : List Figure) (rows : List Row) → Docket before after rows → length rows ≡ total (length before) (λ r. length (changes r (get_or before r None) (get_or after r None)))
docket_length before after rows d =
    sym (counted (length before) rows (rows_items before rows after d.applies)) ∙
    total_same (length before) (λ r. length (rows_of r rows)) (λ r. length (changes r (get_or before r None) (get_or after r None))) (λ r. ap length (d.exact r))

pub same_length : (before after : List Figure) (rows others : List Row) → Docket before after rows → Docket before after others → length others ≡ length rows
same_length before after rows others d e = docket_length before after others e ∙ sym (docket_length before after rows d)
