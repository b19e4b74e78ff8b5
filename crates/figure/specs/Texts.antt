-- Figures as they are printed. Assumes nothing.
--
--   printed   a figure's number in decimal digits, or the word none
use Rattle.std.specs.Prelude.{ℕ, List, codes}
use Rattle.std.specs.Fmt.{decimal}
use Rattle.figure.specs.declared.figure.Figure.{Figure}
use Rattle.figure.specs.declared.figure.Figure.TheVariants.{None, Number}

abbrev pub printed : Figure → List ℕ
printed (Number c) = decimal c.value
printed None = codes "none"
