-- What reading a text answers. Assumes nothing.
--
--   Reads   the sizes of the task that the text states, or the text's first fault, or no memory
use Rattle.std.specs.Prelude.{◌≡◌, ℕ, ◌⊎◌, List, length}
use Rattle.model.specs.Strips.{Problem}
use Rattle.textspec.specs.Texts.{States, Fault, Faulty}
use Rattle.c_interface.specs.declared.structs.Sizes.{Sizes}
use Rattle.c_interface.specs.Delivering.{none_at_fault}

-- 0 and how many facts and actions the problem has
abbrev pub sizes_of : Problem → Sizes
sizes_of p = record { status = 0; fault = none_at_fault; facts = p.facts; actions = length p.actions }

-- 1 and the fault
abbrev pub refused_for : Fault → Sizes
refused_for f = record { status = 1; fault = record { number = f.number; line = f.line; place = f.place }; facts = 0; actions = 0 }

-- 5, no memory
abbrev pub no_memory : Sizes
no_memory = record { status = 5; fault = none_at_fault; facts = 0; actions = 0 }

-- the sizes of the problem that the text states, or its first fault, or no memory
abbrev pub Reads : List ℕ → Sizes → Type 0
Reads text r = ((p : Problem) × States text p × (r ≡ sizes_of p)) ⊎ (((f : Fault) × Faulty text f × (r ≡ refused_for f)) ⊎ (r ≡ no_memory))
