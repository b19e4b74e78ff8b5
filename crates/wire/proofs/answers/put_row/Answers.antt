use Rattle.std.proofs.Common.{◌++◌, vec_items, ap, ◌∙◌}
use Rattle.wire.specs.Numbers.{two, figure_bytes}
use Rattle.wire.proofs.Appending.{thrice}
use Rattle.wire.proofs.answers.put_row.Goals as goal

pub returns : goal.returns
returns c =
    let u = vec_items c.args.bytes.now in
    let v = vec_items c.extend_from_slice.new.self in
    let w = vec_items c.extend_from_slice-2.new.self in
    thrice u v w (vec_items c.extend_from_slice-3.new.self) (two c.args.row.item) (figure_bytes c.args.row.before) (figure_bytes c.args.row.after)
    (c.in_ok-extend_from_slice.ensures.items ∙ ap (λ t. u ++ t) c.two_bytes.ensures)
    (c.in_ok-extend_from_slice-2.ensures.items ∙ ap (λ t. v ++ t) c.figure_bytes.ensures)
    (c.in_ok-extend_from_slice-3.ensures.items ∙ ap (λ t. w ++ t) c.figure_bytes-2.ensures)
