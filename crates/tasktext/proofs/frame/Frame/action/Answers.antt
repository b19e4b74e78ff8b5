use Rattle.std.proofs.Common.{◌+◌, ◌&&◌, get_or, take, drop, sym, ap, ◌∙◌, arith}
use Rattle.std.proofs.lemmas.Bool.{and_from}
use Rattle.hexline.specs.Lines.{bytes_of}
use Rattle.textspec.specs.declared.due.Due.TheVariants.{Action}
use Rattle.textspec.specs.Frames.{action_frame}
use Rattle.strips.specs.Fitting.{below}
use Rattle.textspec.proofs.Refused.{action_whole}
use Rattle.textspec.proofs.Shapes.{part_rising, part_under, action_count, action_is}
use Rattle.tasktext.proofs.Frames.{passed_as}
use Rattle.tasktext.proofs.frame.Frame.action.Goals as goal

pub list-requires : goal.list-requires
list-requires c =
    let f = c.args.self.now in let n = c.args.facts in let b = bytes_of f.line in
    let h = passed_as f (Action n) c.requires in
    let w = action_whole n b h.size in
    let e1 = c.byte-pre.ensures in let e2 = c.byte-add.ensures in let e3 = c.byte-del.ensures in (
      omega arith,
      (
        omega (arith, action_count n b h 1 (omega arith) (omega arith) (omega arith)),
        (
          omega arith,
          part_rising n b h 4 c.byte-pre.result (omega arith) (omega arith) (λ j i l. (λ q. omega arith, λ q. omega arith)),
        ),
      ),
    )

pub list-requires-2 : goal.list-requires-2
list-requires-2 c =
    let f = c.args.self.now in let n = c.args.facts in let b = bytes_of f.line in
    let h = passed_as f (Action n) c.requires in
    let w = action_whole n b h.size in
    let e1 = c.byte-pre.ensures in let e2 = c.byte-add.ensures in let e3 = c.byte-del.ensures in (
      omega arith,
      (
        omega (arith, action_count n b h 2 (omega arith) (omega arith) (omega arith)),
        (
          omega arith,
          part_rising n b h (4 + c.byte-pre.result) c.byte-add.result (omega arith) (omega arith) (λ j i l. (λ q. omega arith, λ q. omega arith)),
        ),
      ),
    )

pub list-requires-3 : goal.list-requires-3
list-requires-3 c =
    let f = c.args.self.now in let n = c.args.facts in let b = bytes_of f.line in
    let h = passed_as f (Action n) c.requires in
    let w = action_whole n b h.size in
    let e1 = c.byte-pre.ensures in let e2 = c.byte-add.ensures in let e3 = c.byte-del.ensures in (
      omega arith,
      (
        omega (arith, action_count n b h 3 (omega arith) (omega arith) (omega arith)),
        (
          omega arith,
          part_rising n b h (4 + c.byte-pre.result + c.byte-add.result) c.byte-del.result (omega arith) (omega arith) (λ j i l. (λ q. omega arith, λ q. omega arith)),
        ),
      ),
    )

pub returns : goal.returns
returns c =
    let f = c.args.self.now in let n = c.args.facts in let b = bytes_of f.line in
    let h = passed_as f (Action n) c.requires in
    let w = action_whole n b h.size in
    let p = c.byte-pre.result in let a = c.byte-add.result in let d = c.byte-del.result in
    let e1 = c.byte-pre.ensures in let e2 = c.byte-add.ensures in let e3 = c.byte-del.ensures in
    record {
      states =
          action_is n b h _ _ _
          (c.list.ensures ∙ ap (λ k. take k (drop 4 b)) e1)
          (c.list-2.ensures ∙ ap (λ k. take a (drop (4 + k) b)) e1 ∙ ap (λ k. take k (drop (4 + get_or b 1 0) b)) e2)
          (c.list-3.ensures ∙ ap (λ k. take d (drop (4 + k + a) b)) e1 ∙ ap (λ k. take d (drop (4 + get_or b 1 0 + k) b)) e2 ∙ ap (λ k. take k (drop (4 + get_or b 1 0 + get_or b 2 0) b)) e3)
          ∙ ap action_frame (sym c.new.ensures);
      fit =
          ap (λ m. below n m.pre && (below n m.add && below n m.del)) c.new.ensures
          ∙ and_from _ _ (ap (below n) c.list.ensures ∙ part_under n b h 4 p (omega arith) (omega arith))
          (and_from _ _ (ap (below n) c.list-2.ensures ∙ part_under n b h (4 + p) a (omega arith) (omega arith))
          (ap (below n) c.list-3.ensures ∙ part_under n b h (4 + p + a) d (omega arith) (omega arith)));
    }
