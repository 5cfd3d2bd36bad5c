-- The vertex at the place is changed, or all are as they were.
use Rattle.std.proofs.Common.{◌∙◌, ◌<◌, ap, map, List, length, arith}
use Rattle.std.proofs.lemmas.Result.{on_ok_weaker, on_err_weaker}
use Rattle.std.proofs.Math.Seq.{map-set_same}
use Rattle.model_core.specs.declared.vertex.Vertex.{Vertex}
use Rattle.model_core.specs.EventGraph.{EventVertex}
use Rattle.model_core.specs.Rules.PlacedEdges.{with_place}
use Rattle.model_core.specs.Rules.Merge.{merged_with}
use Rattle.model_core.specs.Code.Views.{graph_of, vertex_of}
use Rattle.model_core.proofs.PlacesChanged.{map-set-with_place}
use Rattle.merge_rules.proofs.taking_over.take_over_at.Goals as goal

pub returns-clause-done : goal.returns-clause-done
returns-clause-done c =
    let below : c.args.first < length c.as_mut_vec.result.now.items = (let same = ap length c.as_mut_vec.ensures.shows in omega (arith, same, c.requires.first)) in
    on_ok_weaker c.take_over.result
    (λ e. ap (λ (vs : List EventVertex). record (graph_of c.args.model.now) { vertices = vs })
    (map-set-with_place vertex_of (merged_with (vertex_of c.args.other)) c.as_mut_vec.result.now.items c.args.first c.index_mut.result.now c.take_over.new.vertex below c.index_mut.ensures.value e
    ∙ ap (λ (vs : List Vertex). with_place (merged_with (vertex_of c.args.other)) c.args.first (map vertex_of vs)) c.as_mut_vec.ensures.shows))
    c.take_over.ensures.done

pub returns-clause-unchanged : goal.returns-clause-unchanged
returns-clause-unchanged c =
    on_err_weaker c.take_over.result
    (λ e. ap (λ (vs : List EventVertex). record (graph_of c.args.model.now) { vertices = vs })
    (map-set_same vertex_of c.as_mut_vec.result.now.items c.args.first c.take_over.new.vertex c.index_mut.result.now (e ∙ ap vertex_of c.index_mut.ensures.value)
    ∙ ap (map vertex_of) c.as_mut_vec.ensures.shows))
    c.take_over.ensures.unchanged
