-- Lists of figures as tables. Assumes nothing.
use Rattle.std.proofs.Common.{◌≡◌, ℕ, ◌<◌, ◌≤◌, ◌≢◌, List, length, get_or, set, ap, arith}
use native.Mathlib.Decide.{dec_le}
use Rattle.std.proofs.lemmas.List.{get_or_past, get_or-set_same, get_or-set_other}
use Rattle.figure.specs.declared.figure.Figure.{Figure}
use Rattle.figure.specs.declared.figure.Figure.TheVariants.{None, Number}
use Rattle.figure.specs.Ranks.{top, rank, cut}
use Rattle.figure.proofs.Same.{same_rank, rank_low}
use Rattle.model.specs.Figures.{table, figure_of}

pub rank_figure : (v : ℕ) → rank (figure_of v) ≡ cut v
unfolding figure_of
rank_figure v = elim (dec_le v 2000000) as (λ d. rank (elim d [ yes h ↦ Number (record { value = v; within = h }) | no _ ↦ None ]) ≡ cut v) [ yes h ↦ omega arith | no h ↦ omega arith ]

-- a figure is that of its rank
pub figure_rank : (f : Figure) → figure_of (rank f) ≡ f
figure_rank f = same_rank _ _ (let e = rank_figure (rank f) in let l = rank_low f in omega arith)

pub table_low : (figures : List Figure) (q : ℕ) → table figures q ≤ top
table_low figures q = rank_low (get_or figures q None)

pub table_past : (figures : List Figure) (q : ℕ) → length figures ≤ q → table figures q ≡ top
table_past figures q h = ap rank (get_or_past figures q None h)

pub table_same : (figures : List Figure) (q : ℕ) (f : Figure) → q < length figures → table (set figures q f) q ≡ rank f
table_same figures q f h = ap rank (get_or-set_same figures q f None h)

pub table_other : (figures : List Figure) (q : ℕ) (f : Figure) (r : ℕ) → r ≢ q → table (set figures q f) r ≡ table figures r
table_other figures q f r h = ap rank (get_or-set_other figures q r f None h)
