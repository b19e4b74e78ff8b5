use Rattle.std.proofs.Common.{vec_items, subst, arith}
use Rattle.session.specs.Rooms.{Stocked}
use Rattle.session.proofs.Rooms.{stocked_none, stocked_more}
use Rattle.session.proofs.room.blank_dockets.Goals as goal

pub loop-i-init : goal.loop-i-init
loop-i-init c = stocked_none c.args.rows (vec_items c.new-all.result) c.new-all.ensures.items

pub loop-i-preserved : goal.loop-i-preserved
loop-i-preserved c = stocked_more c.loop-i._i c.args.rows (vec_items c.loop-i.all) (vec_items c.push.new.self) c.in_ok-vec.field-0 c.loop-i.invariant c.in_ok-push.ensures.items c.in_ok-vec.ensures.len

pub returns : goal.returns
returns c = subst (λ n. Stocked n c.args.rows (vec_items c.loop-i.all)) (omega (arith, c.loop-i-test.false, c.loop-i.auto._i-end)) c.loop-i.invariant
