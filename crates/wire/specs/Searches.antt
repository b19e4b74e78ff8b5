-- The result of a search in bytes. Assumes nothing.
--
--   search_bytes   a plan, no plan, rows full, or a refusal, in bytes
use Rattle.std.specs.Prelude.{ℕ, List, ◌∷◌, ◌++◌, take, Ok, Err, Result}
use Rattle.std.specs.List.{flat_map}
use Rattle.search_law.specs.declared.outcome.Outcome.{Outcome}
use Rattle.search_law.specs.declared.outcome.Outcome.TheVariants.{Plan, NoPlan, RowsFull}
use Rattle.search_law.specs.declared.refusal.SearchRefusal.{SearchRefusal}
use Rattle.search_law.specs.Refusals.{number_of, values_of}
use Rattle.wire.specs.Numbers.{two}

-- 1 a plan, 2 no plan, 3 rows full, each with the rows used; a plan also with its length and its actions, which are the first steps;
-- 4 a refusal with its number and its values
abbrev pub search_bytes : Result Outcome SearchRefusal → List ℕ → List ℕ
search_bytes (Ok (Plan n used)) steps = (1 ∷ (two used ++ two n)) ++ flat_map two (take n steps)
search_bytes (Ok (NoPlan used)) steps = 2 ∷ two used
search_bytes (Ok (RowsFull used)) steps = 3 ∷ two used
search_bytes (Err e) steps = 4 ∷ number_of e ∷ values_of e
