-- The docket: rows that lead from one list of figures to another. Assumes nothing.
--
--   Row          an item, its figure before and its different figure after
--   Applies      the rows, applied in turn to some figures, give others
--   changes      the rows that the change of one item's figure has
--   RisingRows   down the rows the smaller figure never falls
--   Docket       the rows apply, are exactly the changes, and rise
use Rattle.std.specs.Prelude.{◌≡◌, ℕ, ◌<◌, ◌≤◌, min, cond, ◌&&◌, ◌≢◌, List, [], ◌∷◌, length, get_or, ◌==◌, nat_lt, slice_index_or, slice_set}
use Rattle.std.specs.List.{AllByRecursion}
use Rattle.figure.specs.declared.figure.Figure.{Figure}
use Rattle.figure.specs.declared.figure.Figure.TheVariants.{None}
use Rattle.figure.specs.Ranks.{top, rank}

-- a change of one item's figure
pub record Row : Type 0 where
  pub item : ℕ
  pub before : Figure
  pub after : Figure

-- the row of an item and its two figures
abbrev pub row : ℕ → Figure → Figure → Row
row item before after = record { item = item; before = before; after = after }

-- the row applies to the figures: its item has the first figure, and the second is another
pub record FitsRow (figures : List Figure) (w : Row) : Type 0 where
  pub item : w.item < length figures
  pub before : get_or figures w.item None ≡ w.before
  pub other : w.before ≢ w.after

-- the figures after it: the item has the second
abbrev pub applied : List Figure → Row → List Figure
applied figures w = slice_set figures w.item w.after

-- the rows, applied in turn to the first figures, give the second
abbrev pub Applies : List Figure → List Row → List Figure → Type 0
Applies x [] y = y ≡ x
Applies x (w ∷ ws) y = FitsRow x w × Applies (applied x w) ws y

-- the smaller figure of a row
abbrev pub low : Row → ℕ
low w = min (rank w.before) (rank w.after)

-- down the rows the smaller figure never falls
abbrev pub RisingRows : List Row → Type 0
RisingRows [] = Unit {0}
RisingRows (w ∷ ws) = AllByRecursion (λ v. low w ≤ low v) ws × RisingRows ws

-- the rows of one item, in order
abbrev pub rows_of : ℕ → List Row → List Row
rows_of r [] = []
rows_of r (w ∷ ws) = cond (w.item == r) (w ∷ rows_of r ws) (rows_of r ws)

-- the rows of a change: none if the figure is the same, two through none if a number rises to a number, else one
abbrev pub changes : ℕ → Figure → Figure → List Row
changes r before after =
    cond (rank before == rank after) []
    (cond (nat_lt (rank before) (rank after) && nat_lt (rank after) top) (row r before None ∷ row r None after ∷ []) (row r before after ∷ []))

-- the rows lead from the first figures to the second: they apply, are exactly the changes, and rise
pub record Docket (before after : List Figure) (rows : List Row) : Type 0 where
  pub applies : Applies before rows after
  pub exact : (r : ℕ) → rows_of r rows ≡ changes r (slice_index_or before r None) (slice_index_or after r None)
  pub rising : RisingRows rows
