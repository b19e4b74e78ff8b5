-- The room that a list of calls needs. Assumes nothing.
--
--   settles   how many of the calls settle
--   Stocked   so many dockets of so many rows
--   Roomy     a place for each answer and a docket for each settle
--   Prepared  that, on a queue that is ready
use Rattle.std.specs.Prelude.{◌≡◌, ℕ, ◌+◌, ◌*◌, ◌≤◌, true, List, [], ◌∷◌, length, vec_items, vec_len, vec_capacity, Option, Vec}
use Rattle.std.specs.declared.alloc.Global.{Global}
use Rattle.std.specs.List.{AllByRecursion}
use Rattle.figure.specs.declared.figure.Figure.{Figure as FigureValue}
use Rattle.model.specs.Strips.{Problem, items}
use Rattle.settling.specs.declared.row.DocketRow.{DocketRow}
use Rattle.session.specs.declared.call.Call.{Call}
use Rattle.session.specs.declared.call.Call.TheVariants.{Enter, Strike, Settle, Figure, Goal}
use Rattle.session.specs.declared.room.Room.{Room}
use Rattle.session.specs.Openings.{ready}

-- how many dockets a call needs
abbrev pub weight : Call → ℕ
weight (Enter f) = 0
weight (Strike f) = 0
weight (Settle n) = 1
weight (Figure i) = 0
weight Goal = 0

-- how many of the calls settle
abbrev pub settles : List Call → ℕ
settles [] = 0
settles (c ∷ cs) = weight c + settles cs

-- so many dockets of so many rows
pub record Stocked (count rows : ℕ) (dockets : List (Vec DocketRow Global)) : Type 0 where
  pub many : length dockets ≡ count
  pub long : AllByRecursion (λ d. vec_len d ≡ rows) dockets

-- a place for each answer, and a docket of so many rows for each settle
pub record Roomy (rows : ℕ) (calls : List Call) (room : Room) : Type 0 where
  pub none_yet : vec_items room.answers ≡ []
  pub places : length calls ≤ vec_capacity room.answers
  pub stocked : Stocked (settles calls) rows (vec_items room.dockets)

-- the queue is ready, and there is room for the calls
abbrev pub Prepared : Problem → List (Option FigureValue) → List Call → Room → Type 0
Prepared p pairs calls room = (ready p pairs ≡ true) × Roomy (2 * items p) calls room
