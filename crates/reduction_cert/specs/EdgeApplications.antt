-- The application of a rule of edges to an edge.
use Rattle.std.specs.Prelude.{ℕ, List}
use Rattle.model_core.specs.Rules.Reduction.{RuleApplication, Prune, Settle}
use Rattle.edge_pruning.specs.declared.finding.EdgeRule.{EdgeRule}
use Rattle.edge_pruning.specs.declared.finding.EdgeRule.TheVariants as rules

abbrev pub application_by : EdgeRule → List ℕ → ℕ → RuleApplication
application_by rules.Prune name edge = Prune name edge
application_by rules.Settle name edge = Settle name edge
