-- Figures as numbers: a figure's rank, and the figure of a rank. Assumes nothing.
--
--   ceiling    the largest number that is a figure
--   top        the rank of none, one above the ceiling
--   rank       a figure's rank: its number, or top; figures are equal where their ranks are
--   cut        a number as a rank: itself up to the ceiling, above it that of none
--   halved     half of a rank; half of none is none
use Rattle.std.specs.Prelude.{ℕ, ◌/◌, min, cond, Option, nat_lt}
use Rattle.std.specs.declared.option.Option.TheVariants as option
use Rattle.figure.specs.declared.figure.Figure.{Figure}
use Rattle.figure.specs.declared.figure.Figure.TheVariants.{None, Number}

abbrev pub ceiling : ℕ
ceiling = 2000000

abbrev pub top : ℕ
top = 2000001

-- none is above every number
abbrev pub rank : Figure → ℕ
rank None = top
rank (Number c) = c.value

abbrev pub cut : ℕ → ℕ
cut n = min n top

abbrev pub number_of : Figure → Option ℕ
number_of None = option.None
number_of (Number c) = option.Some c.value

abbrev pub halved : ℕ → ℕ
halved r = cond (nat_lt r top) (r / 2) top
