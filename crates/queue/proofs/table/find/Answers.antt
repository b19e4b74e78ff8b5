use Rattle.std.proofs.Common.{◌≡◌, ◌+◌, length, None, sym, ◌∙◌, subst, arith}
use Rattle.std.proofs.lemmas.List.{get_or_read}
use Rattle.queue.specs.Scans.{Found}
use Rattle.queue.proofs.Scans.{found_skip, found_more, found_front, found_some, found_least}
use Rattle.queue.proofs.table.find.Goals.{in-Some, in_default}
use Rattle.queue.proofs.table.find.Goals as goal

pub loop-item-preserved : goal.loop-item-preserved
loop-item-preserved g c =
    let t = c.args.cells.now in
    let i = c.loop-item.item in
    let leq = g.K.Key.leq in
    let read = sym (get_or_read t i c.index-cells-item.result c.loop-item-test.true c.index-cells-item.is None) in
    elim c.match-cell.branch [
      | in-Some w ↦ subst (Found leq t (i + 1)) (sym w.best-is) (found_more g.met.K.Key.orders t i _ _ _ (read ∙ w.in-Some.is) c.loop-item.invariant w.better-best.ensures)
      | in_default w ↦ subst (Found leq t (i + 1)) (sym w.best-is) (found_skip leq t i _ (read ∙ w.in_default.is) c.loop-item.invariant)
    ]

pub returns : goal.returns
returns g c =
    let t = c.args.cells.now in
    let leq = g.K.Key.leq in
    let r = c.loop-item.best in
    let e : c.loop-item.item ≡ length t = omega arith in
    let f : Found leq t (length t) r = subst (λ n. Found leq t n r) e c.loop-item.invariant in
    record { found = found_front leq t r f; some = found_some leq t r f; least = found_least leq t r f }
