-- The line of the edge goes.
use Rattle.std.proofs.Common.{◌≡◌, ◌∙◌, Some, sym, ap}
use Rattle.std.specs.Option.{option_map}
use Rattle.model_core.specs.Code.Views.{graph_of, edge_of}
use Rattle.model_core.specs.Rules.PlacedEdges.{edge_at}
use Rattle.model_core.specs.Rules.Prune.{pruned}
use Rattle.model_facts.proofs.EdgesChanged.{prune-loses, version-pruned}
use Rattle.model_facts.proofs.after_edge.keep_after_prune.Goals as goal

pub returns-clause-facts : goal.returns-clause-facts
returns-clause-facts c = λ holds.
    let g = graph_of c.args.model.now in
    let e = edge_of c.in-Some.edge.now in
    let there : edge_at g c.args.vertex c.args.edge ≡ Some e = sym c.edge_at.ensures ∙ ap (option_map (λ e. edge_of e.now)) c.in-Some.is in
    c.lose_bytes.ensures.loses g (pruned g c.args.vertex c.args.edge) _ c.edge_length.ensures (prune-loses g c.args.vertex c.args.edge e there) c.requires.facts.lines c.requires.facts.bodies
    (version-pruned g c.args.vertex c.args.edge e there _ _ c.version_without-facts.ensures.undrawn c.requires.facts.version) (c.single_without_parts-facts.ensures.pruned g c.args.vertex c.args.edge c.requires.facts)
