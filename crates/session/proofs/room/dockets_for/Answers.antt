use Rattle.std.proofs.Common.{◌≡◌, rules}
use Rattle.std.specs.List.{count_by}
use Rattle.session.proofs.Rooms.{is_settle, settles_counted}
use Rattle.session.proofs.room.dockets_for.Goals as goal

pub returns : goal.returns
returns c = let e : c.count.result ≡ count_by is_settle c.args.calls.now = search rules in settles_counted c.args.calls.now c.count.result e
