-- What a session keeps of its figures and its queue. Assumes nothing.
--
--   Queued   the queue holds exactly the inconsistent items, each under its key
--   Kept     that, and the stored right-hand sides are those of the held figures
--   Stale    the same while some right-hand sides wait to be made right
--   due      the key under which an item is queued, from its two figures
--
-- In all of them F x is what the equations make of the figures x.
use Rattle.std.specs.Prelude.{◌≡◌, ℕ, ◌≤◌, true, cond, ◌⊎◌, List, length, Option, ◌==◌, nat_le, nat_lt, slice_index_or}
use Rattle.std.specs.declared.option.Option.TheVariants as option
use Rattle.figure.specs.declared.figure.Figure.{Figure}
use Rattle.figure.specs.declared.figure.Figure.TheVariants.{None}
use Rattle.figure.specs.Ranks.{rank}
use Rattle.model.specs.Strips.{State}
use Rattle.model.specs.Figures.{Table, table}
use Rattle.model.specs.Settling.{Consistent, key}
use Rattle.queue.specs.Queues.{at}

-- the queue holds exactly the items whose held figure differs from what the equations make of it, each under the smaller of the two
pub record Queued (F : Table → Table) (figures : List Figure) (pairs : List (Option Figure)) : Type 0 where
  pub consistent : (q : ℕ) → Consistent F (table figures) q → at pairs q ≡ option.None
  pub inconsistent : (q : ℕ) → (Consistent F (table figures) q → ⊥) → (k : Figure) × (at pairs q ≡ option.Some k) × (rank k ≡ key F (table figures) q)

-- there is room for every item, the stored right-hand sides are right, and the queue is exact
pub record Kept (F : Table → Table) (figures sides : List Figure) (pairs : List (Option Figure)) : Type 0 where
  pub room : length figures ≤ length pairs
  pub rights : (q : ℕ) → table sides q ≡ F (table figures) q
  pub queued : Queued F figures pairs

-- the smaller of two figures
abbrev pub smaller : Figure → Figure → Figure
smaller a b = cond (nat_le (rank a) (rank b)) a b

-- the key under which an item of these two figures is queued, if they differ
abbrev pub due : Figure → Figure → Option Figure
due h w = cond (rank h == rank w) option.None (option.Some (smaller h w))

-- the queue's pairs are those of the held figures and the stored right-hand sides
abbrev pub Dues : List Figure → List Figure → List (Option Figure) → Type 0
Dues figures sides pairs = (q : ℕ) → at pairs q ≡ due (slice_index_or figures q None) (slice_index_or sides q None)

-- the stored right-hand sides are right but for the stale ones, and the queue is exact for the stored ones
pub record Stale (F : Table → Table) (figures sides : List Figure) (pairs : List (Option Figure)) (stale : State) : Type 0 where
  pub room : length figures ≤ length pairs
  pub rights : (q : ℕ) → (stale q ≡ true) ⊎ (table sides q ≡ F (table figures) q)
  pub dues : Dues figures sides pairs

-- an inconsistent item's next figure: its right-hand side if that is smaller, or else none
abbrev pub moved : Figure → Figure → Figure
moved h w = cond (nat_lt (rank w) (rank h)) w None
