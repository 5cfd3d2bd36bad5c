-- Which applications take vertices away.
use Rattle.std.specs.Prelude.{Bool, true, false}
use Rattle.model_core.specs.Rules.Reduction.{RuleApplication, Drop}

abbrev pub is_drop : RuleApplication → Bool
is_drop (Drop names) = true
is_drop a = false
