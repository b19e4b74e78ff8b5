use Rattle.std.proofs.Common.{◌≡◌, [], ◌∷◌, ◌++◌, map, length, get_or, vec_items, sym, ap, ◌∙◌}
use Rattle.std.specs.List.{flat_map}
use Rattle.std.proofs.lemmas.List.{length-map}
use Rattle.settling.specs.Holding.{row_of}
use Rattle.session.specs.Works.{reply_of}
use Rattle.wire.specs.Numbers.{two}
use Rattle.wire.specs.Answers.{row_bytes, reply_bytes}
use Rattle.wire.proofs.Appending.{twice}
use Rattle.wire.proofs.answers.put_answer.Goals as goal

pub returns-in_ok-put_rows-in-Wrote : goal.returns-in_ok-put_rows-in-Wrote
returns-in_ok-put_rows-in-Wrote c =
    let u = vec_items c.args.bytes.now in
    let v = vec_items c.extend_from_slice-in-Wrote.new.self in
    let rows = vec_items c.in-Wrote.rows in
    let many : c.len.result ≡ length (map row_of rows) = c.len.ensures ∙ c.in-Wrote.rows.ok.0 ∙ sym (length-map rows row_of) in
    let count : c.two_bytes.result ≡ two (length (map row_of rows)) = c.two_bytes.ensures ∙ ap two many in
    twice u v (vec_items c.put_rows.new.bytes) (2 ∷ two (length (map row_of rows))) (flat_map row_bytes (map row_of rows))
    (c.in_ok-extend_from_slice-in-Wrote.ensures.items ∙ ap (λ t. u ++ (2 ∷ get_or t 0 0 ∷ get_or t 1 0 ∷ [])) count)
    (c.in_ok-put_rows-in-Wrote.ensures ∙ ap (λ t. v ++ flat_map row_bytes (map row_of t)) c.as_slice.ensures.value)
    ∙ ap (λ a. u ++ reply_bytes (reply_of a)) (sym c.in-Wrote.is)
