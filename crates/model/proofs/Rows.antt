-- A docket with one more row. Assumes nothing.
use Rattle.std.proofs.Common.{◌≡◌, ℕ, ◌<◌, ◌≤◌, cond, eqb, ◌≢◌, List, [], ◌∷◌, ◌++◌, length, get_or, set, sym, refl, ap, ◌∙◌, subst, ⊎_elim}
use Rattle.std.specs.List.{AllByRecursion}
use Rattle.std.proofs.ByRecursion.{All-push}
use Rattle.std.proofs.lemmas.Bool.{cases_Bool, cond-true, cond-false, eq-eqb, ne_eqb}
use Rattle.figure.specs.declared.figure.Figure.{Figure}
use Rattle.figure.specs.declared.figure.Figure.TheVariants.{None}
use Rattle.model.specs.Docket.{Row, row, Applies, low, RisingRows, rows_of}

pub applies_push : (x : List Figure) (rows : List Row) (y : List Figure) (q : ℕ) (b a : Figure) → Applies x rows y → q < length y → get_or y q None ≡ b → b ≢ a → Applies x (rows ++ (row q b a ∷ [])) (set y q a)
applies_push x [] y q b a e h g n =
    (record { item = subst (λ l. q < length l) e h; before = subst (λ l. get_or l q None ≡ b) e g; other = n }, ap (λ l. set l q a) e)
applies_push x (w ∷ ws) y q b a e h g n = (e.0, applies_push (set x w.item w.after) ws y q b a e.1 h g n)

pub rising_push : (rows : List Row) (w : Row) → RisingRows rows → AllByRecursion (λ v. low v ≤ low w) rows → RisingRows (rows ++ (w ∷ []))
rising_push [] w r u = (tt, tt)
rising_push (v ∷ vs) w r u = (All-push (λ x. low v ≤ low x) vs w r.0 u.0, rising_push vs w r.1 u.1)

pub rows_same : (q : ℕ) (rows : List Row) (b a : Figure) → rows_of q (rows ++ (row q b a ∷ [])) ≡ rows_of q rows ++ (row q b a ∷ [])
rows_same q [] b a = cond-true _ _ _ (eq-eqb q q refl)
rows_same q (w ∷ ws) b a =
    ⊎_elim
    (λ e. cond-true _ _ _ e ∙ ap (λ l. w ∷ l) (rows_same q ws b a) ∙ ap (λ l. l ++ (row q b a ∷ [])) (sym (cond-true (eqb w.item q) (w ∷ rows_of q ws) (rows_of q ws) e)))
    (λ e. cond-false _ _ _ e ∙ rows_same q ws b a ∙ ap (λ l. l ++ (row q b a ∷ [])) (sym (cond-false (eqb w.item q) (w ∷ rows_of q ws) (rows_of q ws) e)))
    (cases_Bool (eqb w.item q))

pub rows_other : (r q : ℕ) (rows : List Row) (b a : Figure) → q ≢ r → rows_of r (rows ++ (row q b a ∷ [])) ≡ rows_of r rows
rows_other r q [] b a n = cond-false _ _ _ (ne_eqb q r n)
rows_other r q (w ∷ ws) b a n = ap (λ l. cond (eqb w.item r) (w ∷ l) l) (rows_other r q ws b a n)
