-- What looking at a line's frame answers. Assumes nothing.
--
--   IsFirst     the first fault of a line's frame
--   NextFrame   what reading the next line as the frame that is due answers
use Rattle.std.specs.Prelude.{◌≡◌, ℕ, ◌⊎◌, List, Some, Ok, Err, Result}
use Rattle.textspec.specs.declared.due.Due.{Due}
use Rattle.textspec.specs.Hex.{FirstFault, LineIs}
use Rattle.textspec.specs.Refusals.{refusal}
use Rattle.textspec.specs.Texts.{IsFrameFault}
use Rattle.hexline.specs.declared.line.Line.{Line}
use Rattle.hexline.specs.Lines.{bytes_of}
use Rattle.textfault.specs.declared.fault.FrameFault.{FrameFault}
use Rattle.textfault.specs.Shown.{frame_shown}
use Rattle.tasktext.specs.declared.frame.Frame.{Frame}

-- the fault is the first of the line's frame, where this one is due, and in the line's number
abbrev pub IsFirst : Due → Line → FrameFault → Type 0
IsFirst due l e =
    (refusal due (bytes_of l) ≡ Some (record { number = (frame_shown e).number; place = (frame_shown e).place })) × ((frame_shown e).line ≡ l.number)

-- the next line, whose frame is due and passes; or the line's first fault, and then the text stays
abbrev pub NextFrame : Due → ℕ → List ℕ → List ℕ → Result Frame FrameFault → Type 0
NextFrame due number text rest (Ok f) = (f.due ≡ due) × LineIs text rest (bytes_of f.line)
NextFrame due number text rest (Err e) =
    (rest ≡ text) × ((frame_shown e).line ≡ number)
    × (FirstFault text (frame_shown e).number (frame_shown e).place ⊎ IsFrameFault due text (frame_shown e).number (frame_shown e).place)
