-- An edge that isn't live excludes all others.
use Rattle.std.proofs.Common.{◌∙◌, ◌&&◌, not, map, sym, ap}
use Rattle.model_core.specs.Rules.Exclusive.{exclusive}
use Rattle.model_core.specs.Rules.UrgentEdges.{each_pair, urgent_conditions}
use Rattle.model_core.specs.Code.Views.{graph_of, edge_of}
use Rattle.range_bounds.proofs.ExcludedByNumbers.{each_pair-not_live}
use Rattle.range_bounds.proofs.urgency.excludes_later_urgent.Goals as goal

pub returns-then-not-is_live : goal.returns-then-not-is_live
returns-then-not-is_live c =
    each_pair-not_live (graph_of c.args.model.now) (edge_of c.args.edge.now) (map edge_of c.args.later.now) (sym c.is_live.ensures ∙ c.if-not-is_live.true)
    ∙ ap (λ b. b && each_pair (exclusive (graph_of c.args.model.now)) (urgent_conditions (map edge_of c.args.later.now))) (sym (ap not c.if-not-is_live.true))
