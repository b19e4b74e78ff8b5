use Rattle.search_theory.proofs.Count.{room}
use Rattle.search_theory.proofs.no_room.Goals as goal

pub returns : goal.returns
returns c = room
