-- The condition of the edge goes.
use Rattle.std.proofs.Common.{◌≡◌, ◌∙◌, Some, sym, ap}
use Rattle.std.specs.Option.{option_map}
use Rattle.model_core.specs.Code.Views.{graph_of, edge_of}
use Rattle.model_core.specs.Rules.PlacedEdges.{edge_at}
use Rattle.model_core.specs.Rules.Settle.{settled}
use Rattle.model_facts.proofs.EdgesChanged.{settle-loses, version-settled}
use Rattle.model_facts.proofs.after_edge.keep_after_settle.Goals as goal

pub returns-clause-facts : goal.returns-clause-facts
returns-clause-facts c = λ holds.
    let g = graph_of c.args.model.now in
    let e = edge_of c.in-Some.settled.now in
    let there : edge_at g c.args.vertex c.args.edge ≡ Some e = sym c.edge_at.ensures ∙ ap (option_map (λ e. edge_of e.now)) c.in-Some.is in
    c.lose_bytes.ensures.loses g (settled g c.args.vertex c.args.edge) _ c.condition_length.ensures (settle-loses g c.args.vertex c.args.edge e there) c.requires.facts.lines c.requires.facts.bodies
    (version-settled g c.args.vertex c.args.edge _ c.requires.facts.version) c.single_settled-facts.ensures.right
