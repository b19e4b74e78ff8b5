use Rattle.std.proofs.Common.{length}
use Rattle.textspec.specs.Texts.{Begins}
use Rattle.hexline.specs.Lines.{left}
use Rattle.tasktext.specs.Loads.{taken}
use Rattle.tasktext.proofs.text.read_into.Given as goal

abbrev pub invariant-loop-reader : goal.invariant-loop-reader
invariant-loop-reader l = Begins l.text (taken l.load) (left l.reader)

abbrev pub decreases-loop-reader : goal.decreases-loop-reader
decreases-loop-reader l = length (left l.reader)
