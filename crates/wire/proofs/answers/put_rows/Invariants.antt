use Rattle.std.proofs.Common.{◌≡◌, ◌++◌, drop, vec_items}
use Rattle.std.specs.List.{flat_map}
use Rattle.settling.specs.Holding.{row_of}
use Rattle.wire.specs.Answers.{row_bytes}
use Rattle.wire.proofs.answers.put_rows.Given as goal

abbrev pub invariant-loop-row : goal.invariant-loop-row
invariant-loop-row l = vec_items l.bytes ++ flat_map (λ w. row_bytes (row_of w)) (drop l.row-index l.rows) ≡ vec_items l.initial.bytes ++ flat_map (λ w. row_bytes (row_of w)) l.rows
