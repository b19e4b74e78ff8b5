-- The promise of a search, for rows that were got as asked. Assumes nothing.
--
--   empty_queue   a new queue is empty, with room for every row
--   finds         what a search over such memory says
use Rattle.std.proofs.Common.{◌≡◌, ℕ, zero, suc, ◌≤◌, min, true, length, replicate, None, Ok, Err, Option, Result, sym, refl, ◌∙◌, subst, arith}
use Rattle.std.proofs.lemmas.List.{length-take-le}
use Rattle.model.specs.Strips.{Problem, State}
use Rattle.queue.specs.declared.key.Pair.{Pair}
use Rattle.queue.specs.Queues.{vacant}
use Rattle.search_theory.specs.Estimates.{Enough}
use Rattle.search_law.specs.declared.outcome.Outcome.{Outcome}
use Rattle.search_law.specs.declared.outcome.Outcome.TheVariants as outcome
use Rattle.search_law.specs.declared.refusal.SearchRefusal.{SearchRefusal}
use Rattle.search_law.specs.declared.refusal.SearchRefusal.TheVariants.{StateBeyond, QueueUnfit, RowsUnfit, EstimatorUnfit}
use Rattle.search_law.specs.Law.{Searched}
use Rattle.search_law.specs.Refusals.{Memory, Accepted, QueueFits, RowsFit}
use Rattle.choices.specs.Finding.{InRange, Searchable, Finds}

pub empty_queue : (n : ℕ) → vacant (replicate {A = Option Pair} n None) ≡ true
empty_queue zero = refl
empty_queue (suc n) = empty_queue n

-- so many rows were got: all that were asked for, or more than a search takes
pub record Got (rows : ℕ) (m : Memory) : Type 0 where
  pub rows_got : length m.rows ≡ min rows 65536
  pub steps_got : length m.steps ≡ min rows 65536
  pub queue_got : QueueFits m

all_got : (rows : ℕ) (m : Memory) → Got rows m → RowsFit m → length m.rows ≡ rows
all_got rows m g f = omega (arith, g.rows_got, f.few)

in_range : (rows : ℕ) (m : Memory) → Got rows m → RowsFit m → InRange rows
in_range rows m g f = (omega (arith, g.rows_got, f.some), omega (arith, g.rows_got, f.few))

searchable : (p : Problem) (s : State) (F : Type 0) (m : Memory) (rows used : ℕ) → Got rows m → Accepted p s F m → used ≤ length m.rows → Searchable p s rows used
searchable p s F m rows used g a u = record { within = a.state; range = in_range rows m g a.rows; used_few = omega (arith, u, all_got rows m g a.rows) }

pub finds : (p : Problem) (s : State) (v : State → ℕ) (F A S : Type 0) (before after : Memory) (rows : ℕ) → Got rows before → length after.steps ≡ length before.steps → A → S → F →
    (r : Result Outcome SearchRefusal) → Searched p s v F A S before after r → Finds p s rows after.steps r
finds p s v F A S before after rows g long a q f (Ok (outcome.Plan n used)) h = (
  searchable p s F before rows used g h.0 h.1.memory.fits,
  record {
    few = omega (arith, h.1.says.fits, g.steps_got, g.rows_got, h.0.rows.few);
    long = length-take-le n after.steps (omega (arith, long, h.1.says.fits));
    plan = h.1.says.plan;
    shortest = h.1.says.shortest a q;
  },
)
finds p s v F A S before after rows g long a q f (Ok (outcome.NoPlan used)) h =
    (searchable p s F before rows used g h.0 h.1.memory.fits, h.1.says.none a)
finds p s v F A S before after rows g long a q f (Ok (outcome.RowsFull used)) h = (
  searchable p s F before rows used g h.0 h.1.memory.fits,
  h.1.says.full ∙ all_got rows before g h.0.rows,
  λ enough. h.1.enough (subst (Enough p s) (sym (all_got rows before g h.0.rows)) enough) refl,
)
finds p s v F A S before after rows g long a q f (Err (StateBeyond fact)) h = h.0
finds p s v F A S before after rows g long a q f (Err QueueUnfit) h = h.0.1 g.queue_got
finds p s v F A S before after rows g long a q f (Err RowsUnfit) h = (
  h.0.0,
  λ range. h.0.2 (record { some = omega (arith, g.rows_got, range.0, range.1); few = omega (arith, g.rows_got, range.1); steps = omega (arith, g.rows_got, g.steps_got) }),
)
finds p s v F A S before after rows g long a q f (Err EstimatorUnfit) h = h.0.3 f
