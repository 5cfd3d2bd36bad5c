-- The pair at the vertex, or none.
use Rattle.std.proofs.Common.{◌∙◌, sym, ap, option_map}
use Rattle.model_core.specs.EventGraph.{EventVertex, EventEdge}
use Rattle.model_core.specs.Run.Step.{vertex_at}
use Rattle.model_core.specs.Rules.UrgentEdges.{plain_urgent_edge}
use Rattle.model_core.specs.Code.Views.{graph_of}
use Rattle.merge_rules.proofs.ConditionsAsked.PairsFound.{pair_found, pair_refused}
use Rattle.merge_rules.proofs.first_pair.merge_at.Goals as goal

pub returns-in-None-failed_merge-clause-found : goal.returns-in-None-failed_merge-clause-found
returns-in-None-failed_merge-clause-found t c =
    let g = graph_of c.args.model.now in
    pair_found g c.args.first c.in-Some.second (plain_urgent_edge (vertex_at g c.args.first)) c.failed_merge.result
    (ap (λ (v : EventVertex). option_map (λ (e : EventEdge). e.target) (plain_urgent_edge v)) (sym c.requires.there) ∙ sym c.target_at_once.ensures ∙ c.in-Some.is) c.failed_merge.ensures.failed c.in-None-failed_merge.is

pub returns-in-Some-failed_merge-clause-found : goal.returns-in-Some-failed_merge-clause-found
returns-in-Some-failed_merge-clause-found t c =
    let g = graph_of c.args.model.now in
    pair_refused g c.args.first c.in-Some.second (plain_urgent_edge (vertex_at g c.args.first)) c.failed_merge.result c.in-Some-failed_merge.field-0
    (ap (λ (v : EventVertex). option_map (λ (e : EventEdge). e.target) (plain_urgent_edge v)) (sym c.requires.there) ∙ sym c.target_at_once.ensures ∙ c.in-Some.is) c.failed_merge.ensures.failed c.in-Some-failed_merge.is
