-- The vertex of an edge after a rule of one edge.
use Rattle.std.specs.Prelude.{ℕ}
use Rattle.model_core.specs.EventGraph.{EventVertex}
use Rattle.model_core.specs.Rules.Prune.{without_edge}
use Rattle.model_core.specs.Rules.Settle.{with_settled}
use Rattle.edge_pruning.specs.declared.finding.EdgeRule.{EdgeRule}
use Rattle.edge_pruning.specs.declared.finding.EdgeRule.TheVariants as rules

-- the vertex with the edge at this place changed
abbrev pub changed_by : EdgeRule → ℕ → EventVertex → EventVertex
changed_by rules.Prune = without_edge
changed_by rules.Settle = with_settled
