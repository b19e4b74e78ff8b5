-- What working calls on a session answers, in bytes. Assumes nothing.
--
--   Chosen         the numbers of a rule and a queue
--   Replied        the replies are right for the calls, on the task that the text states
--   Works          the bytes of right replies, or why there are none
--   WorkAnswered   what the caller is answered, and what is in the buffer
use Rattle.std.specs.Prelude.{◌≡◌, ℕ, List, Some, Ok, Err, Result}
use Rattle.model.specs.Strips.{Problem}
use Rattle.model.specs.Runs.{Call, Reply, fresh, Rights}
use Rattle.textspec.specs.Texts.{States, Faulty}
use Rattle.textfault.specs.Shown.{load_shown}
use Rattle.wire.specs.Calls.{Writes}
use Rattle.wire.specs.Answers.{answer_bytes}
use Rattle.choices.specs.declared.choice.RuleChoice.{RuleChoice}
use Rattle.choices.specs.declared.choice.QueueChoice.{QueueChoice}
use Rattle.c_interface.specs.declared.structs.Answered.{Answered}
use Rattle.c_interface.specs.declared.why.Failure.{Failure}
use Rattle.c_interface.specs.declared.why.Failure.TheVariants.{Text, Calls, Choice, Memory}
use Rattle.choices.specs.Rules.{rule_of}
use Rattle.choices.specs.Numbers.{rule_numbered, queue_numbered}
use Rattle.c_interface.specs.Delivering.{Delivered}

-- both numbers choose something
pub record Chosen (rule queue : ℕ) : Type 0 where
  pub cost : RuleChoice
  pub store : QueueChoice
  pub rule_is : rule_numbered rule ≡ Some cost
  pub queue_is : queue_numbered queue ≡ Some store

-- the replies are right, each for the calls before it, in a session opened on the problem that the text states
pub record Replied (text : List ℕ) (rule queue : ℕ) (calls : List ℕ) (replies : List Reply) : Type 0 where
  pub chosen : Chosen rule queue
  pub asked : List Call
  pub problem : Problem
  pub writes : Writes calls asked
  pub states : States text problem
  pub rights : Rights problem (rule_of chosen.cost) (fresh problem) asked replies

-- the bytes of right replies; or why there are none
abbrev pub Works : List ℕ → ℕ → ℕ → List ℕ → Result (List ℕ) Failure → Type 0
Works text rule queue calls (Ok bytes) = (replies : List Reply) × Replied text rule queue calls replies × (bytes ≡ answer_bytes replies)
Works text rule queue calls (Err (Text e)) = Chosen rule queue × ((asked : List Call) × Writes calls asked) × Faulty text (load_shown e)
Works text rule queue calls (Err Calls) = Chosen rule queue × ((asked : List Call) → Writes calls asked → ⊥)
Works text rule queue calls (Err Choice) = Chosen rule queue → ⊥
Works text rule queue calls (Err Memory) = Chosen rule queue

-- these bytes, or this failure, come to the caller
abbrev pub WorkAnswered : List ℕ → ℕ → ℕ → List ℕ → List ℕ → List ℕ → Answered → Type 0
WorkAnswered text rule queue calls before after r = (o : Result (List ℕ) Failure) × Works text rule queue calls o × Delivered o before after r
