use Rattle.std.proofs.Common.{◌≡◌, map, drop}
use lib.Pointwise.{pointwise}
use Rattle.model_core.specs.EventGraph.{scalar_location}
use Rattle.model_core.specs.Rules.BoundsOfParts.{quiet_set}
use Rattle.model_core.specs.Code.Views.{graph_of, expression_of}
use Rattle.merge_rules.proofs.conditions.quiet_pairs.Given as goal

abbrev pub invariant-loop-place : goal.invariant-loop-place
invariant-loop-place l =
    pointwise (quiet_set (graph_of l.model)) (map scalar_location (drop l.place l.params)) (map expression_of (drop l.place l.values))
    ≡ pointwise (quiet_set (graph_of l.model)) (map scalar_location l.params) (map expression_of l.values)
