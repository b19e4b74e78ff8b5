use Rattle.std.proofs.Common.{◌≡◌, ◌<◌, [], length, sym, subst, arith, rules}
use Rattle.std.proofs.lemmas.List.{nil_from_length}
use Rattle.std.proofs.lemmas.Bool.{eqb-true, eqb-false}
use Rattle.textspec.specs.Texts.{Begins}
use Rattle.hexline.specs.Lines.{left}
use Rattle.tasktext.specs.Loads.{taken}
use Rattle.tasktext.proofs.Steps.{begins_more}
use Rattle.tasktext.proofs.Ends.{at_line, closed}
use Rattle.tasktext.proofs.text.read_into.Goals as goal

pub loop-reader-preserved : goal.loop-reader-preserved
loop-reader-preserved c = begins_more _ _ c.args.text.now _ _ c.in_default.ensures c.loop-reader.invariant

pub returns-in-Err : goal.returns-in-Err
returns-in-Err c =
    let xs = left c.loop-reader.reader in
    let more : 0 < length xs = omega (arith, eqb-false (length xs) 0 (sym c.loop-reader-test.ensures)) in
    at_line c.args.text.now c.loop-reader.load _ xs _ _ c.loop-reader.invariant more c.in-Err.ensures

pub returns : goal.returns
returns c =
    let l = c.loop-reader.load in
    let xs = left c.loop-reader.reader in
    let end : xs ≡ [] = nil_from_length xs (eqb-true _ _ (sym c.loop-reader-test.ensures)) in
    closed c.args.text.now l c.close.result c.map_err.result (λ e f p. search rules)
    (subst (Begins c.args.text.now (taken l)) end c.loop-reader.invariant) c.close.ensures c.map_err.ensures.cases
