-- The rule that is chosen. Assumes nothing.
--
--   rule_of   the cost rule of a choice
use Rattle.model.specs.Figures.{Rule, additive_rule, max_rule}
use Rattle.choices.specs.declared.choice.RuleChoice.{RuleChoice}
use Rattle.choices.specs.declared.choice.RuleChoice.TheVariants.{Additive, Max}

-- the cost rule of a choice
abbrev pub rule_of : RuleChoice → Rule
rule_of Additive = additive_rule
rule_of Max = max_rule
