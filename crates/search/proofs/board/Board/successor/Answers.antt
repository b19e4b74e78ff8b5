use Rattle.std.proofs.Common.{◌≡◌, ◌+◌, ◌<◌, length, sym, ap, ◌∙◌, subst, arith}
use Rattle.std.proofs.lemmas.Grind.{common_steps}
use Rattle.model.specs.Strips.{May, step}
use Rattle.strips.specs.Standing.{standing}
use Rattle.strips.specs.Tasks.{problem}
use Rattle.search_law.specs.Boards.{board, first, Turning, Moves}
use Rattle.search_law.proofs.Opens.{overfull}
use Rattle.search_law.proofs.Successors.{any, shortened, added}
use Rattle.search.proofs.board.Board.successor.Goals as goal

pub shorten-requires-clause-rows : goal.shorten-requires-clause-rows
shorten-requires-clause-rows g c =
    let m = c.requires.turn in
    let look = c.in-Found.ensures c.args.self.now.used m.sized.tree in
    (omega (arith, m.turn.within, m.sized.tree.fits), omega (arith, look.within, m.sized.tree.fits))

pub returns-in-Found : goal.returns-in-Found
returns-in-Found g c =
    let b = c.args.self.now in
    let p = problem b.task.now in
    let rows = b.rows.now in
    let t = g.Q.Queue.pairs b.queue.now in
    let i = c.args.i in
    let a = c.args.action in
    let v = g.E.Estimator.value b.est.now in
    let agrees = g.E.Estimator.agrees b.est.now in
    let m = c.requires.turn in
    let look = c.in-Found.ensures b.used m.sized.tree in
    let e = any rows i c.index-rows-i.result (omega (arith, m.turn.within, m.sized.tree.fits)) in
    let may = subst (λ w. May p a (standing w.state)) e (c.may.ensures.0 c.if-not-may.false) in
    let is = c.after-next.ensures ∙ ap (λ w. step p a (standing w.state)) e in
    let after = c.shorten.new.self.rows.now in
    let u = g.Q.Queue.pairs c.shorten.new.self.queue.now in
    let done = shortened p (first rows) v agrees rows t b.used i a m may c.after-next.result is c.in-Found.at look.within look.is after u c.shorten.ensures.after in
    let (turn, moves) = subst (λ n. Turning p (first rows) (board after u n) i (a + 1) × Moves p (first rows) v agrees (board rows t b.used) (board after u n)) (sym c.shorten.ensures.used) done in
    record { turn = turn; moves = moves; leaves = c.shorten.ensures.leaves }

pub returns-in-Under-clause-turn : goal.returns-in-Under-clause-turn
returns-in-Under-clause-turn g c =
    let b = c.args.self.now in
    let p = problem b.task.now in
    let rows = b.rows.now in
    let i = c.args.i in
    let a = c.args.action in
    let m = c.requires.turn in
    let look = c.in-Under.ensures b.used m.sized.tree in
    let e = any rows i c.index-rows-i.result (omega (arith, m.turn.within, m.sized.tree.fits)) in
    let may = subst (λ w. May p a (standing w.state)) e (c.may.ensures.0 c.if-not-may.false) in
    let is = c.after-next.ensures ∙ ap (λ w. step p a (standing w.state)) e in
    let full : b.used ≡ length rows = grind (arith, common_steps) in
    overfull p (first rows) (g.E.Estimator.value b.est.now) (g.E.Estimator.agrees b.est.now) rows (g.Q.Queue.pairs b.queue.now) b.used i a m may (standing c.after-next.result) is full look.none

pub returns-in-Under-2 : goal.returns-in-Under-2
returns-in-Under-2 g c =
    let b = c.args.self.now in
    let p = problem b.task.now in
    let rows = b.rows.now in
    let t = g.Q.Queue.pairs b.queue.now in
    let i = c.args.i in
    let a = c.args.action in
    let v = g.E.Estimator.value b.est.now in
    let agrees = g.E.Estimator.agrees b.est.now in
    let m = c.requires.turn in
    let fits = m.sized.tree.fits in
    let look = c.in-Under.ensures b.used m.sized.tree in
    let e = any rows i c.index-rows-i.result (omega (arith, m.turn.within, fits)) in
    let may = subst (λ w. May p a (standing w.state)) e (c.may.ensures.0 c.if-not-may.false) in
    let is = c.after-next.ensures ∙ ap (λ w. step p a (standing w.state)) e in
    let lt : b.used < length rows = grind (arith, common_steps) in
    let after = c.add.new.self.rows.now in
    let u = g.Q.Queue.pairs c.add.new.self.queue.now in
    let done = added p (first rows) v agrees rows t b.used i a m may c.after-next.result is c.in-Under.field-0 look lt after u c.add.ensures.after in
    let (turn, moves) = subst (λ n. Turning p (first rows) (board after u n) i (a + 1) × Moves p (first rows) v agrees (board rows t b.used) (board after u n)) (sym c.add.ensures.used) done in
    record { turn = turn; moves = moves; leaves = c.add.ensures.leaves }
