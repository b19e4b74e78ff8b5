use Rattle.std.proofs.Common.{vec_items, subst, arith}
use Rattle.session.specs.Rooms.{Stocked}
use Rattle.session.proofs.room.reserve.Goals as goal

pub returns : goal.returns
returns c =
    let a = c.in_ok-answers.ensures in
    record {
      none_yet = a.items;
      places = omega (arith, a.capacity);
      stocked = subst (λ n. Stocked n c.args.rows (vec_items c.in_ok-dockets.dockets)) c.dockets_for.ensures c.in_ok-dockets.ensures;
    }
