-- Figures are equal where their ranks are, and `==` tells it. Assumes nothing.
use Rattle.std.proofs.Common.{◌≡◌, ℕ, ◌≤◌, cond, eqb, leb, min, max, Decides, sym, refl, ap, subst, arith, rules}
use Rattle.std.proofs.lemmas.Bool.Decides.{Decides-eqb, Decides-like}
use native.Mathlib.Bridge.{le_prop}
use Rattle.figure.specs.declared.cost.Cost.{Cost}
use Rattle.figure.specs.declared.figure.Figure.{Figure}
use Rattle.figure.specs.declared.figure.Figure.TheVariants.{None, Number}
use Rattle.std.specs.Ordering.{ord_min, ord_max}
use Rattle.figure.specs.contracts.values.FigurePartialEq.TheImpl as equality
use Rattle.figure.specs.contracts.figure.FigureOrd.TheImpl as order
use Rattle.figure.specs.Ranks.{rank, top}

abbrev made : (v : ℕ) → v ≤ 2000000 → Cost
made v h = record { value = v; within = h }

pub same_cost : (a b : Cost) → a.value ≡ b.value → a ≡ b
same_cost a b e =
    let P : ℕ → Type 0 = λ v. (h : v ≤ 2000000) → a ≡ made v h in
    subst P e (λ h. ap (made a.value) (le_prop a.within h)) b.within

pub same_rank : (f g : Figure) → rank f ≡ rank g → f ≡ g
same_rank None None e = refl
same_rank None (Number c) e = absurd (omega (arith, c.within))
same_rank (Number c) None e = absurd (omega (arith, c.within))
same_rank (Number c) (Number d) e = ap Number (same_cost c d e)

pub rank_low : (f : Figure) → rank f ≤ top
rank_low None = omega arith
rank_low (Number c) = omega (arith, c.within)

-- `==` compares the ranks, and so tells whether two figures are one
pub told_rank : (f g : Figure) → equality.ghosts.eq f g ≡ eqb (rank f) (rank g)
told_rank f g = search rules

pub told_same : (f g : Figure) → Decides (eqb (rank f) (rank g)) (f ≡ g)
told_same f g = Decides-like _ (same_rank f g) (ap rank) (Decides-eqb (rank f) (rank g))

pub told_equal : (f g : Figure) → Decides (equality.ghosts.eq f g) (f ≡ g)
told_equal f g = subst (λ b. Decides b (f ≡ g)) (sym (told_rank f g)) (told_same f g)

-- `min` and `max` are the smaller and the larger by rank
pub rank_min : (f g : Figure) → rank (ord_min order.ghosts.cmp f g) ≡ min (rank f) (rank g)
rank_min f g = search rules

pub rank_max : (f g : Figure) → rank (ord_max order.ghosts.cmp f g) ≡ max (rank f) (rank g)
rank_max f g = search rules

pub min_is : (f g : Figure) → ord_min order.ghosts.cmp f g ≡ cond (leb (rank f) (rank g)) f g
min_is f g = search rules

pub max_is : (f g : Figure) → ord_max order.ghosts.cmp f g ≡ cond (leb (rank f) (rank g)) g f
max_is f g = search rules
