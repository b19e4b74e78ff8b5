use Rattle.std.proofs.Common.{vec_items}
use Rattle.session.specs.Rooms.{Stocked}
use Rattle.session.proofs.room.blank_dockets.Given as goal

abbrev pub invariant-loop-i : goal.invariant-loop-i
invariant-loop-i l = Stocked l._i l.rows (vec_items l.all)
