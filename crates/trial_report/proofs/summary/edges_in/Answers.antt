use Rattle.std.proofs.Common.{◌^◌, ◌-◌, length, map, min, ap, ◌∙◌, arith}
use Rattle.std.specs.List.{sum_by}
use Rattle.model_core.specs.EventGraph.{EventVertex}
use Rattle.model_core.specs.Code.Views.{graph_of, vertex_of}
use Rattle.model_core.specs.Static.OwnRules.{parameters_of}
use Rattle.trial_report.proofs.EdgesCounted.{few_edges}
use Rattle.trial_report.proofs.summary.edges_in.Goals as goal

pub returns : goal.returns
returns c =
    let g = graph_of c.args.model.now in
    let kept = (c.validity_is_by_parts.ensures.by_parts g).0 c.requires in
    let parts = kept.0.parts in
    let few = few_edges g.variables (length g.tables) (parameters_of g) g.vertices parts.vertices in
    let some = parts.few_vertices in
    let counted = c.edges_of.ensures ∙ ap (λ vs. min (sum_by (λ (v : EventVertex). length v.edges) (map vertex_of vs)) (2 ^ 64 - 1)) c.as_slice.ensures in
    omega (arith, counted, few, some)
