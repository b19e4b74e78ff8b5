-- Lines of hexadecimal: bytes written as digits, and the first fault of a line. Assumes nothing.
--
--   is_digit, value   0-9a-f, and the number that a digit stands for
--   digit, hex        the digit of a number, and the digits of bytes
--   line_of           the line that states bytes
--   bytes             the bytes that digits stand for
--   fault_at          the fault that a line shows at a column
--   FirstFault        the first fault of a line, by column
--   LineIs            the text begins with the line that states these bytes
use Rattle.std.specs.Prelude.{◌≡◌, ℕ, ◌+◌, ◌-◌, ◌*◌, ◌/◌, ◌%◌, ◌<◌, ◌≤◌, Bool, true, cond, ◌&&◌, ◌||◌, List, [], ◌∷◌, ◌++◌, length, ◌==◌, nat_le, slice_index}
use Rattle.std.specs.List.{list_all}

-- 0-9a-f
abbrev pub is_digit : ℕ → Bool
is_digit c = (nat_le 48 c && nat_le c 57) || (nat_le 97 c && nat_le c 102)

-- what a digit stands for
abbrev pub value : ℕ → ℕ
value c = cond (nat_le c 57) (c - 48) (c - 87)

-- the digit of a number below 16
abbrev pub digit : ℕ → ℕ
digit n = cond (nat_le n 9) (48 + n) (87 + n)

-- bytes as digits, two a byte, the high one first
abbrev pub hex : List ℕ → List ℕ
hex [] = []
hex (b ∷ bs) = digit (b / 16) ∷ digit (b % 16) ∷ hex bs

-- the line that states these bytes: their digits and the byte 0a
abbrev pub line_of : List ℕ → List ℕ
line_of b = hex b ++ 10 ∷ []

-- digits as bytes
abbrev pub bytes : List ℕ → List ℕ
bytes [] = []
bytes (a ∷ []) = []
bytes (a ∷ b ∷ ds) = (16 * value a + value b) ∷ bytes ds

abbrev pub digits_only : List ℕ → Bool
digits_only ds = list_all is_digit ds

-- The number of the fault that a line shows at a column, 0 for none; `xs` is the text from the line's start.
-- Past the text: 7. At the line's end: 1 if the line is empty or odd. At a digit: 2 if it is the 515th. At all else: 1.
abbrev pub fault_at : List ℕ → ℕ → ℕ
fault_at xs column =
    cond (nat_le (length xs + 1) column) 7
    (cond (slice_index xs (column - 1) == 10) (cond (column == 1 || column % 2 == 0) 1 0)
    (cond (is_digit (slice_index xs (column - 1))) (cond (column == 515) 2 0) 1))

-- each column before this one holds a digit
abbrev pub DigitsBefore : List ℕ → ℕ → Type 0
DigitsBefore xs column = (k : ℕ) → k + 1 < column → is_digit (slice_index xs k) ≡ true

-- the line with which `xs` begins has its first fault, of this number, at this column
pub record FirstFault (xs : List ℕ) (number column : ℕ) : Type 0 where
  pub from : 1 ≤ column
  pub upto : column ≤ 515
  pub before : DigitsBefore xs column
  pub here : fault_at xs column ≡ number
  pub fault : 0 < number

-- what a line can state: 1 to 257 bytes
pub record Sized (b : List ℕ) : Type 0 where
  pub some : 0 < length b
  pub few : length b ≤ 257
  pub small : (k : ℕ) → slice_index b k < 256

-- the text begins with the line that states these bytes, and goes on with the rest
pub record LineIs (text rest b : List ℕ) : Type 0 where
  pub is : text ≡ hex b ++ 10 ∷ rest
  pub sized : Sized b
