-- Faults by number, line and place, whatever their layer. Assumes nothing.
--
--   line_shown    of the line layer: 1, 2 and 7
--   frame_shown   of the frame layer: 3 to 6, and the line layer's as they came
--   load_shown    of the load layer: 7, and the frame layer's as they came
use Rattle.textspec.specs.Texts.{Fault}
use Rattle.textfault.specs.declared.fault.LineFault.{LineFault}
use Rattle.textfault.specs.declared.fault.LineFault.TheVariants as digits
use Rattle.textfault.specs.declared.fault.FrameFault.{FrameFault}
use Rattle.textfault.specs.declared.fault.FrameFault.TheVariants.{Line, NotDue, Length, Bounds, Rising}
use Rattle.textfault.specs.declared.fault.LoadFault.{LoadFault}
use Rattle.textfault.specs.declared.fault.LoadFault.TheVariants.{Frame, Early}

-- a digit, the 515th digit, the text's end inside a line
abbrev pub line_shown : LineFault → Fault
line_shown (digits.Digit p) = record { number = 1; line = p.line; place = p.at }
line_shown (digits.Long p) = record { number = 2; line = p.line; place = p.at }
line_shown (digits.Early p) = record { number = 7; line = p.line; place = p.at }

-- not due, length, bounds, rising
abbrev pub frame_shown : FrameFault → Fault
frame_shown (Line e) = line_shown e
frame_shown (NotDue p) = record { number = 3; line = p.line; place = p.at }
frame_shown (Length p) = record { number = 4; line = p.line; place = p.at }
frame_shown (Bounds p) = record { number = 5; line = p.line; place = p.at }
frame_shown (Rising p) = record { number = 6; line = p.line; place = p.at }

-- no end frame
abbrev pub load_shown : LoadFault → Fault
load_shown (Frame e) = frame_shown e
load_shown (Early p) = record { number = 7; line = p.line; place = p.at }
