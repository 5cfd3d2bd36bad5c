-- The numbers in the comparisons decide it.
use Rattle.std.proofs.Common.{◌∙◌, List, map, ap}
use Rattle.model_core.specs.Rules.UrgentEdges.{each_pair}
use Rattle.model_core.specs.Code.Views.{graph_of, edge_of}
use Rattle.range_bounds.specs.declared.compared_alike.Compared.{Compared}
use Rattle.range_bounds.specs.Inner.ComparedAlike.{never_both}
use Rattle.range_bounds.proofs.ExcludedByNumbers.{never_both-urgent}
use Rattle.range_bounds.proofs.urgency.at_most_one_is_taken.Goals as goal

pub returns-in-Some : goal.returns-in-Some
returns-in-Some c =
    let (left, alike) = c.in-Some.ensures.are in
    c.all_are_apart.ensures ∙ ap (λ (all : List Compared). each_pair never_both all) c.as_slice.ensures.value
    ∙ never_both-urgent (graph_of c.args.model.now) left (map edge_of c.args.edges.now) c.in-Some.all.items alike
