use Rattle.std.proofs.Common.{◌++◌, vec_items, ap, ◌∙◌}
use Rattle.settling.specs.Holding.{row_of}
use Rattle.wire.specs.Answers.{row_bytes}
use Rattle.wire.proofs.Appending.{one_further, to_the_end, joined_map}
use Rattle.wire.proofs.answers.put_rows.Goals as goal

pub loop-row-preserved : goal.loop-row-preserved
loop-row-preserved c =
    let v = vec_items c.loop-row.bytes in
    one_further (λ w. row_bytes (row_of w)) _ c.args.rows.now c.loop-row.row-index c.row-item.result v (vec_items c.put_row.new.bytes) c.loop-row-test.true c.loop-row.invariant
    (c.in_ok-put_row.ensures ∙ ap (λ w. v ++ row_bytes (row_of w)) c.row-item.is)

pub returns : goal.returns
returns c =
    to_the_end (λ w. row_bytes (row_of w)) _ c.args.rows.now c.loop-row.row-index (vec_items c.loop-row.bytes) c.loop-row-test.false c.loop-row.invariant
    ∙ ap (λ t. vec_items c.args.bytes.now ++ t) (joined_map row_bytes row_of c.args.rows.now)
