use Rattle.std.proofs.Common.{◌++◌, vec_items, ap, ◌∙◌}
use Rattle.std.specs.List.{flat_map}
use Rattle.session.specs.Works.{reply_of}
use Rattle.wire.specs.Answers.{reply_bytes}
use Rattle.wire.proofs.Appending.{one_further, to_the_end, joined_map}
use Rattle.wire.proofs.answers.encode_answers.Goals as goal

pub loop-answer-init : goal.loop-answer-init
loop-answer-init c = ap (λ t. t ++ flat_map (λ a. reply_bytes (reply_of a)) c.args.answers.now) c.new-bytes.ensures.items

pub loop-answer-preserved : goal.loop-answer-preserved
loop-answer-preserved c =
    let v = vec_items c.loop-answer.bytes in
    one_further (λ a. reply_bytes (reply_of a)) _ c.args.answers.now c.loop-answer.answer-index c.answer-item.result v (vec_items c.put_answer.new.bytes) c.loop-answer-test.true c.loop-answer.invariant
    (c.in_ok-put_answer.ensures ∙ ap (λ a. v ++ reply_bytes (reply_of a)) c.answer-item.is)

pub returns : goal.returns
returns c =
    to_the_end (λ a. reply_bytes (reply_of a)) _ c.args.answers.now c.loop-answer.answer-index (vec_items c.loop-answer.bytes) c.loop-answer-test.false c.loop-answer.invariant
    ∙ joined_map reply_bytes reply_of c.args.answers.now
