-- What a queue refuses, by number. Assumes nothing.
--
--   number_of   the number of a refusal
use Rattle.std.specs.Prelude.{ℕ}
use Rattle.queue.specs.declared.refusal.QueueRefusal.{QueueRefusal}
use Rattle.queue.specs.declared.refusal.QueueRefusal.TheVariants.{Beyond}

-- an item at or above the capacity is 8, and has no values
abbrev pub number_of : QueueRefusal → ℕ
number_of Beyond = 8
