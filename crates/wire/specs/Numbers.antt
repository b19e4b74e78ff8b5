-- Numbers and figures in bytes, the high byte first. Assumes nothing.
--
--   two, four      a number in two bytes, or in four
--   figure_bytes   a figure in four bytes; none is four bytes ff
use Rattle.std.specs.Prelude.{ℕ, ◌/◌, ◌%◌, List, [], ◌∷◌}
use Rattle.std.specs.Option.{unwrap_or}
use Rattle.figure.specs.declared.figure.Figure.{Figure}
use Rattle.figure.specs.Ranks.{number_of}

-- a number below 65,536 in two bytes
abbrev pub two : ℕ → List ℕ
two n = n / 256 % 256 ∷ n % 256 ∷ []

-- a number below 2 ^ 32 in four bytes
abbrev pub four : ℕ → List ℕ
four n = n / 16777216 % 256 ∷ n / 65536 % 256 ∷ n / 256 % 256 ∷ n % 256 ∷ []

-- a figure's number in four bytes; none has the largest number of four bytes, which no figure has
abbrev pub figure_bytes : Figure → List ℕ
figure_bytes f = four (unwrap_or (number_of f) 4294967295)
