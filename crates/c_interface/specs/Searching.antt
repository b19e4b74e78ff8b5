-- What a search on a text's task answers, in bytes. Assumes nothing.
--
--   Chosen           the numbers of an estimator and a queue
--   Sought           the outcome is that of a search on the problem that the text states
--   Searches         the bytes of an outcome, or why there is none
--   SearchAnswered   what the caller is answered, and what is in the buffer
use Rattle.std.specs.Prelude.{◌≡◌, ℕ, List, Some, Ok, Err, Result}
use Rattle.model.specs.Strips.{Problem, these}
use Rattle.textspec.specs.Texts.{States, Faulty}
use Rattle.textfault.specs.Shown.{load_shown}
use Rattle.search_law.specs.declared.outcome.Outcome.{Outcome}
use Rattle.search_law.specs.declared.refusal.SearchRefusal.{SearchRefusal}
use Rattle.choices.specs.declared.choice.EstimatorChoice.{EstimatorChoice}
use Rattle.choices.specs.declared.choice.QueueChoice.{QueueChoice}
use Rattle.choices.specs.Finding.{Finds}
use Rattle.wire.specs.Searches.{search_bytes}
use Rattle.c_interface.specs.declared.structs.Answered.{Answered}
use Rattle.c_interface.specs.declared.why.Failure.{Failure}
use Rattle.c_interface.specs.declared.why.Failure.TheVariants.{Text, Calls, Choice, Memory}
use Rattle.choices.specs.Numbers.{estimator_numbered, queue_numbered}
use Rattle.c_interface.specs.Delivering.{Delivered}

-- both numbers choose something
pub record Chosen (estimator queue : ℕ) : Type 0 where
  pub estimate : EstimatorChoice
  pub store : QueueChoice
  pub estimator_is : estimator_numbered estimator ≡ Some estimate
  pub queue_is : queue_numbered queue ≡ Some store

-- the outcome is that of a search on the problem that the text states, from the state of these facts
pub record Sought (text start : List ℕ) (rows estimator queue : ℕ) (steps : List ℕ) (o : Result Outcome SearchRefusal) : Type 0 where
  pub chosen : Chosen estimator queue
  pub problem : Problem
  pub states : States text problem
  pub finds : Finds problem (these start) rows steps o

-- the bytes of an outcome; or why there is none
abbrev pub Searches : List ℕ → List ℕ → ℕ → ℕ → ℕ → Result (List ℕ) Failure → Type 0
Searches text start rows estimator queue (Ok bytes) =
    (o : Result Outcome SearchRefusal) × (steps : List ℕ) × Sought text start rows estimator queue steps o × (bytes ≡ search_bytes o steps)
Searches text start rows estimator queue (Err (Text e)) = Chosen estimator queue × Faulty text (load_shown e)
Searches text start rows estimator queue (Err Calls) = ⊥
Searches text start rows estimator queue (Err Choice) = Chosen estimator queue → ⊥
Searches text start rows estimator queue (Err Memory) = Chosen estimator queue

-- these bytes, or this failure, come to the caller
abbrev pub SearchAnswered : List ℕ → List ℕ → ℕ → ℕ → ℕ → List ℕ → List ℕ → Answered → Type 0
SearchAnswered text start rows estimator queue before after r =
    (o : Result (List ℕ) Failure) × Searches text start rows estimator queue o × Delivered o before after r
