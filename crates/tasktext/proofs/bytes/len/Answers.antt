use Rattle.std.proofs.Common.{length, ap, arith}
use Rattle.textspec.proofs.Hexes.{length_bytes}
use Rattle.tasktext.proofs.bytes.len.Goals as goal

pub returns-clause-size : goal.returns-clause-size
returns-clause-size c = omega (arith, length_bytes c.args.line.now.digits.now, ap length c.digits.ensures)
