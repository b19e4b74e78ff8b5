use Rattle.std.proofs.Common.{◌≡◌, ◌++◌, drop, vec_items}
use Rattle.std.specs.List.{flat_map}
use Rattle.session.specs.Works.{reply_of}
use Rattle.wire.specs.Answers.{reply_bytes}
use Rattle.wire.proofs.answers.encode_answers.Given as goal

abbrev pub invariant-loop-answer : goal.invariant-loop-answer
invariant-loop-answer l = vec_items l.bytes ++ flat_map (λ a. reply_bytes (reply_of a)) (drop l.answer-index l.answers) ≡ flat_map (λ a. reply_bytes (reply_of a)) l.answers
