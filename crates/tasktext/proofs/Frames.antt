-- What an accepted frame has passed.
use Rattle.std.proofs.Common.{◌≡◌, subst}
use Rattle.textspec.specs.declared.due.Due.{Due}
use Rattle.textspec.proofs.Shapes.{Passed, passed}
use Rattle.hexline.specs.Lines.{bytes_of}
use Rattle.tasktext.specs.declared.frame.Frame.{Frame}

pub passed_as : (f : Frame) (due : Due) → f.due ≡ due → Passed due (bytes_of f.line)
passed_as f due e = subst (λ d. Passed d (bytes_of f.line)) e (passed f.due (bytes_of f.line) f.accepted)
