-- What a load means, and what taking a line and closing answer. Assumes nothing.
--
--   taken     a load's meaning: the frames that it has taken, in order
--   Took      a line was taken
--   Taking    what taking a line answers and leaves
--   Closing   what closing answers
use Rattle.std.specs.Prelude.{◌≡◌, ℕ, ◌+◌, List, [], ◌∷◌, ◌++◌, map, length, None, Ok, Err, vec_items, Result, ◌≢◌}
use Rattle.model.specs.Strips.{Action, Lawful}
use Rattle.strips.specs.declared.task.Task.{Task}
use Rattle.strips.specs.Lists.{listed}
use Rattle.strips.specs.Actions.{action_of}
use Rattle.strips.specs.Tasks.{problem}
use Rattle.textspec.specs.declared.due.Due.TheVariants.{Nothing}
use Rattle.textspec.specs.Hex.{LineIs}
use Rattle.textspec.specs.Frames.{frames_of}
use Rattle.textspec.specs.Refusals.{refusal}
use Rattle.textspec.specs.Order.{due_after}
use Rattle.textspec.specs.Texts.{IsLineFault}
use Rattle.tasktext.specs.declared.load.Load.{Load}
use Rattle.textfault.specs.declared.fault.LoadFault.{LoadFault}
use Rattle.textfault.specs.declared.fault.LoadFault.TheVariants.{Frame, Early}
use Rattle.textfault.specs.Shown.{frame_shown}
use Rattle.tasktext.specs.Stage.{before}

abbrev pub acts_of : Load → List Action
acts_of l = map action_of (vec_items l.actions)

-- the frames that a load has taken
abbrev pub taken : Load → List (List ℕ)
taken l = before l.due l.facts l.wanted (acts_of l) (listed l.goal) (listed l.start)

-- the frame on the text's first line was due and had no fault, and is now the last that was taken
pub record Took (frames frames' : List (List ℕ)) (text rest : List ℕ) : Type 0 where
  pub bytes : List ℕ
  pub line : LineIs text rest bytes
  pub none : refusal (due_after frames) bytes ≡ None
  pub moved : frames' ≡ frames ++ bytes ∷ []

-- a line is taken, or refused for its first fault; then load and text are as they were
abbrev pub Taking : Load → List ℕ → Load → List ℕ → Result (Unit {0}) LoadFault → Type 0
Taking l text l' rest (Ok _) = Took (taken l) (taken l') text rest
Taking l text l' rest (Err (Frame e)) = (l' ≡ l) × (rest ≡ text) × IsLineFault (taken l) text (frame_shown e)
Taking l text l' rest (Err (Early p)) = ⊥

-- the task whose frames were taken, or, as the end frame was not, 7 in column 1 of the next line, and the load given back
abbrev pub Closing : Load → Result Task (Load × LoadFault) → Type 0
Closing l (Ok t) = Lawful (problem t) × (taken l ≡ frames_of (problem t))
Closing l (Err e) = (e.0 ≡ l) × (e.1 ≡ Early (record { line = length (taken l) + 1; at = 1 })) × (due_after (taken l) ≢ Nothing)
