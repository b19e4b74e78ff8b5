-- What reading a whole text answers. Assumes nothing.
--
--   IsTextFault   why a text is refused, by the layer that says so
--   ReadingInto   what a text is answered with where a load is there
--   Reading       what a text is answered with
use Rattle.std.specs.Prelude.{ℕ, List, Ok, Err, Result}
use Rattle.model.specs.Strips.{Problem}
use Rattle.strips.specs.declared.task.Task.{Task}
use Rattle.strips.specs.Tasks.{problem}
use Rattle.textspec.specs.Texts.{States, AtLine, AtEnd}
use Rattle.textfault.specs.declared.fault.LoadFault.{LoadFault}
use Rattle.textfault.specs.declared.fault.LoadFault.TheVariants.{Frame, Early}
use Rattle.textfault.specs.declared.fault.ReadFault.{ReadFault}
use Rattle.textfault.specs.declared.fault.ReadFault.TheVariants.{Memory, Text}
use Rattle.textfault.specs.Shown.{frame_shown, load_shown}

-- a line's fault comes from the line or its frame; the missing end frame is the load's to say
abbrev pub IsTextFault : List ℕ → LoadFault → Type 0
IsTextFault text (Frame e) = AtLine text (frame_shown e)
IsTextFault text (Early p) = AtEnd text (load_shown (Early p))

-- the task with the problem that the text states; or, as it states none, its first fault
abbrev pub ReadingInto : List ℕ → Result Task LoadFault → Type 0
ReadingInto text (Ok t) = States text (problem t)
ReadingInto text (Err e) = IsTextFault text e × ((p : Problem) → States text p → ⊥)

-- the same, or no memory to begin
abbrev pub Reading : List ℕ → Result Task ReadFault → Type 0
Reading text (Ok t) = States text (problem t)
Reading text (Err (Text e)) = ReadingInto text (Err e)
Reading text (Err Memory) = Unit {0}
