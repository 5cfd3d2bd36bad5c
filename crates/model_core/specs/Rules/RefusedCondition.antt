-- Which condition of a rule an error names.
use Rattle.std.specs.Prelude.{◌≡◌, ℕ, Option, Some}
use Rattle.model_core.specs.declared.rule_error.RuleError.{RuleError}
use Rattle.model_core.specs.declared.rule_error.RuleError.TheVariants as errors

-- a refusal names the condition that fails first; running out of memory names none
abbrev pub NamesCondition : RuleError → Option ℕ → Type 0
NamesCondition (errors.Refused condition) failed = failed ≡ Some condition
NamesCondition errors.NoMemory failed = Unit {0}
