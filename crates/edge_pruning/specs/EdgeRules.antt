-- To which edges a rule of one edge applies.
use Rattle.std.specs.Prelude.{Bool}
use Rattle.model_core.specs.EventGraph.{EventGraph, EventEdge}
use Rattle.model_core.specs.Rules.Prune.{has_refuted_condition}
use Rattle.model_core.specs.Rules.Settle.{can_be_settled}
use Rattle.edge_pruning.specs.declared.finding.EdgeRule.{EdgeRule}
use Rattle.edge_pruning.specs.declared.finding.EdgeRule.TheVariants as rules

abbrev pub edge_test : EdgeRule → EventGraph → EventEdge → Bool
edge_test rules.Prune g e = has_refuted_condition g e
edge_test rules.Settle g e = can_be_settled g e
