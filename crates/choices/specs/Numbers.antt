-- What the caller chooses by number. Assumes nothing.
--
--   rule_numbered        0 the additive rule, 1 the max rule
--   queue_numbered       0 a heap, 1 a table
--   estimator_numbered   0 blind, 1 a session, 2 keeping over the larger of both
use Rattle.std.specs.Prelude.{ℕ, cond, Some, None, Option, ◌==◌}
use Rattle.choices.specs.declared.choice.RuleChoice.{RuleChoice}
use Rattle.choices.specs.declared.choice.RuleChoice.TheVariants.{Additive, Max}
use Rattle.choices.specs.declared.choice.QueueChoice.{QueueChoice}
use Rattle.choices.specs.declared.choice.QueueChoice.TheVariants.{Heap, Table}
use Rattle.choices.specs.declared.choice.EstimatorChoice.{EstimatorChoice}
use Rattle.choices.specs.declared.choice.EstimatorChoice.TheVariants.{Blind, Session, Keeping}

abbrev pub rule_numbered : ℕ → Option RuleChoice
rule_numbered n = cond (n == 0) (Some Additive) (cond (n == 1) (Some Max) None)

abbrev pub queue_numbered : ℕ → Option QueueChoice
queue_numbered n = cond (n == 0) (Some Heap) (cond (n == 1) (Some Table) None)

abbrev pub estimator_numbered : ℕ → Option EstimatorChoice
estimator_numbered n = cond (n == 0) (Some Blind) (cond (n == 1) (Some Session) (cond (n == 2) (Some Keeping) None))
