-- The other edges are calm, those before the plain urgent one and those after it, and none reads what is written.
use Rattle.std.proofs.Common.{◌∙◌, sym, ap, refl, map}
use Rattle.std.specs.List.{list_any, list_all}
use Rattle.std.proofs.lemmas.List.{map-append}
use Rattle.model_core.specs.Rules.Uses.{vertex_writes}
use Rattle.model_core.specs.Rules.Merge.{other_edges}
use Rattle.model_core.specs.Code.Views.{graph_of, edge_of, vertex_of}
use Rattle.merge_rules.specs.Inner.ReadingEdges.{is_calm, reads_one_of}
use Rattle.merge_rules.proofs.ConditionsAsked.OtherEdgesCalm.{first_not_calm, second_not_calm, both_calm}
use Rattle.merge_rules.proofs.conditions.other_edges_are_calm.Goals as goal

pub returns-then-not-all_calm-clause-is : goal.returns-then-not-all_calm-clause-is
returns-then-not-all_calm-clause-is t c =
    let g = graph_of c.args.model.now in
    let others = c.other_edges-others.result in
    first_not_calm g (vertex_writes (vertex_of c.args.second.now)) (map edge_of others.before.now) (map edge_of others.after.now) (other_edges (vertex_of c.args.first.now))
    (sym (map-append edge_of others.before.now others.after.now) ∙ c.other_edges-others.ensures)
    c.all_calm.result (list_all (is_calm g) (map edge_of others.after.now)) c.all_calm.ensures refl c.if-not-all_calm.true

pub returns-then-not-all_calm-2-clause-is : goal.returns-then-not-all_calm-2-clause-is
returns-then-not-all_calm-2-clause-is t c =
    let g = graph_of c.args.model.now in
    let others = c.other_edges-others.result in
    second_not_calm g (vertex_writes (vertex_of c.args.second.now)) (map edge_of others.before.now) (map edge_of others.after.now) (other_edges (vertex_of c.args.first.now))
    (sym (map-append edge_of others.before.now others.after.now) ∙ c.other_edges-others.ensures)
    c.all_calm.result c.all_calm-2.result c.all_calm.ensures c.all_calm-2.ensures c.if-not-all_calm.false c.if-not-all_calm-2.true

pub returns-clause-is : goal.returns-clause-is
returns-clause-is t c =
    let g = graph_of c.args.model.now in
    let writes = vertex_writes (vertex_of c.args.second.now) in
    let others = c.other_edges-others.result in
    both_calm g writes (map edge_of others.before.now) (map edge_of others.after.now) (other_edges (vertex_of c.args.first.now))
    (sym (map-append edge_of others.before.now others.after.now) ∙ c.other_edges-others.ensures)
    c.all_calm.result c.all_calm-2.result c.all_calm.ensures c.all_calm-2.ensures c.if-not-all_calm.false c.if-not-all_calm-2.false
    c.reads_written.result (c.reads_written.ensures.is ∙ ap (list_any (reads_one_of writes)) c.other_edges-others.ensures)
