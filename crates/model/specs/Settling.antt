-- Settling: steps that lead from any held figures to the one table. Assumes nothing.
--
--   Consistent   an item's held figure is what the equations make of the held figures
--   key          the smaller of the two
--   Step         an inconsistent item of the least key gets its next figure
--   Settling     steps in turn from some figures, with a row for each
--   reads        whether the equation of an item reads another item
--   StepsKeep, Settlings, SettlingEnds, Local, Moved   the theorems
--
-- In all of them F x is what the equations make of the held figures x.
use Rattle.std.specs.Prelude.{◌≡◌, ℕ, ◌-◌, ◌*◌, ◌<◌, ◌≤◌, min, Bool, false, cond, ◌&&◌, ◌≢◌, ◌⊎◌, List, [], ◌∷◌, ◌++◌, length, nat_le, nat_lt, slice_index_or, slice_set}
use Rattle.figure.specs.declared.figure.Figure.{Figure}
use Rattle.figure.specs.declared.figure.Figure.TheVariants.{None}
use Rattle.figure.specs.Ranks.{top, rank}
use Rattle.model.specs.Strips.{Problem, State, items, names, action}
use Rattle.model.specs.Figures.{Rule, Laws, Table, table, equations, Solves}
use Rattle.model.specs.Docket.{Row, row, Docket}

-- an item's held figure is what the equations make of the held figures
abbrev pub Consistent : (Table → Table) → Table → ℕ → Type 0
Consistent F x q = x q ≡ F x q

-- the smaller of an item's held figure and of what the equations make of it
abbrev pub key : (Table → Table) → Table → ℕ → ℕ
key F x q = min (x q) (F x q)

-- no inconsistent item has a key below k
abbrev pub NoKeyBelow : (Table → Table) → Table → ℕ → Type 0
NoKeyBelow F x k = (r : ℕ) → Consistent F x r ⊎ (k ≤ key F x r)

-- an inconsistent item's next figure: what the equations make of it if that is smaller, or else none
abbrev pub next : (Table → Table) → Table → ℕ → ℕ
next F x q = cond (nat_lt (F x q) (x q)) (F x q) top

-- item q of the figures is inconsistent, of the least key, and f is its next figure
pub record Step (F : Table → Table) (figures : List Figure) (q : ℕ) (f : Figure) : Type 0 where
  pub item : q < length figures
  pub inconsistent : Consistent F (table figures) q → ⊥
  pub least : NoKeyBelow F (table figures) (key F (table figures) q)
  pub figure : rank f ≡ next F (table figures) q

-- steps in turn from the first figures to the second, with the row of each
pub data Settling (F : Table → Table) (first : List Figure) : List Figure → List Row → Type 0 where
  begun : Settling F first first []
  more : {figures : List Figure} {rows : List Row} (q : ℕ) (f : Figure) → Settling F first figures rows → Step F figures q f → Settling F first (slice_set figures q f) (rows ++ (row q (slice_index_or figures q None) f ∷ []))

-- what a step keeps, k being its key
pub record Keeps (F : Table → Table) (x : Table) (k : ℕ) (y : Table) : Type 0 where
  -- keys never fall
  pub keys : NoKeyBelow F y k
  -- an item that is consistent at or below k is final
  pub final : (r : ℕ) → Consistent F x r → x r ≤ k → (y r ≡ x r) × Consistent F y r
  -- what the equations make of an item stays above l, for every l up to k: so above k itself after a raise from k
  pub above : (r l : ℕ) → l ≤ k → l < F x r → l < F y r

-- every step of a settling keeps so
abbrev pub StepsKeep : Type 0
StepsKeep =
    (rule : Rule) → Laws rule → (p : Problem) (s : State) (figures : List Figure) (q : ℕ) (f : Figure) →
    Step (equations rule p s) figures q f →
    Keeps (equations rule p s) (table figures) (key (equations rule p s) (table figures) q) (table (slice_set figures q f))

-- what holds after any number of steps, n being the number of items
pub record Settles (n : ℕ) (F : Table → Table) (first figures : List Figure) (rows : List Row) : Type 0 where
  -- the rows so far are a docket: each item changed at most twice, first up and then down, and never back to its old figure
  pub docket : Docket first figures rows
  -- there are at most two for each item
  pub few : length rows ≤ 2 * n
  -- where some item is inconsistent, another step can be taken
  pub further : (r : ℕ) → (Consistent F (table figures) r → ⊥) → (q : ℕ) × (f : Figure) × Step F figures q f
  -- where none is, these are the figures of the one table
  pub ended : ((r : ℕ) → r < n → Consistent F (table figures) r) → Solves F (table figures)

-- so it is with every settling from any figures, whatever was held before
abbrev pub Settlings : Type 0
Settlings =
    (rule : Rule) → Laws rule → (p : Problem) (s : State) (first figures : List Figure) (rows : List Row) →
    length first ≡ items p → Settling (equations rule p s) first figures rows →
    Settles (items p) (equations rule p s) first figures rows

-- from any figures some settling leads to the one table
abbrev pub SettlingEnds : Type 0
SettlingEnds =
    (rule : Rule) → Laws rule → (p : Problem) (s : State) (first : List Figure) → length first ≡ items p →
    (figures : List Figure) × (rows : List Row) × Settling (equations rule p s) first figures rows × Solves (equations rule p s) (table figures)

-- whether the equation of item r reads item q: that of a fact the actions that add it, that of an action its preconditions
abbrev pub reads : Problem → ℕ → ℕ → Bool
reads p r q =
    cond (nat_lt r p.facts) (nat_le p.facts q && names (action p (q - p.facts)).add r) (names (action p (r - p.facts)).pre q)

-- a change of q alone leaves what the equations make of every item that does not read q
abbrev pub Local : Type 0
Local =
    (rule : Rule) (p : Problem) (s : State) (x y : Table) (q : ℕ) → ((r : ℕ) → r ≢ q → y r ≡ x r) →
    (r : ℕ) → reads p r q ≡ false → equations rule p s y r ≡ equations rule p s x r

-- where other facts stand, only the facts that came or went have another equation
abbrev pub Moved : Type 0
Moved = (rule : Rule) (p : Problem) (s u : State) (x : Table) (q : ℕ) → s q ≡ u q → equations rule p s x q ≡ equations rule p u x q
