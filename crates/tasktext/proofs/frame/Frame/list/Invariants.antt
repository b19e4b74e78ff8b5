use Rattle.std.proofs.Common.{◌≡◌, take, drop}
use Rattle.hexline.specs.Lines.{bytes_of}
use Rattle.strips.specs.Lists.{listed}
use Rattle.tasktext.proofs.frame.Frame.list.Given as goal

abbrev pub invariant-loop-i : goal.invariant-loop-i
invariant-loop-i g l = listed l.list ≡ take l.i (drop l.from (bytes_of l.self.line))
