-- The vertex at the place is given, and all else stays.
use Rattle.std.proofs.Common.{◌∙◌, ◌<◌, ap, sym, map, List, length, slice_index_or, slice_set, arith}
use Rattle.std.proofs.lemmas.List.{map-set}
use Rattle.model_core.specs.declared.vertex.Vertex.{Vertex}
use Rattle.model_core.specs.EventGraph.{EventVertex}
use Rattle.model_core.specs.Run.Step.{no_vertex}
use Rattle.model_core.specs.Code.Views.{graph_of, vertex_of}
use Rattle.merge_rules.proofs.PairsBetweenMerges.PairsKept.{edges-read}
use Rattle.merge_rules.proofs.taking_over.replace_at.Goals as goal

pub returns-clause-given : goal.returns-clause-given
returns-clause-given c =
    let shows = c.as_mut_vec.ensures.shows in
    let below : c.args.place < length c.as_mut_vec.result.now.items = (let same = ap length shows in omega (arith, same, c.requires)) in
    ap vertex_of c.replace.ensures.value
    ∙ sym (edges-read c.as_mut_vec.result.now.items c.args.place c.index_mut.result.now below c.index_mut.ensures.value)
    ∙ ap (λ (vs : List Vertex). slice_index_or (map vertex_of vs) c.args.place no_vertex) shows

pub returns-clause-put : goal.returns-clause-put
returns-clause-put c =
    ap (λ (vs : List EventVertex). record (graph_of c.args.model.now) { vertices = vs })
    (map-set vertex_of c.as_mut_vec.result.now.items c.args.place c.replace.new.dest
    ∙ λ i. slice_set (map vertex_of (c.as_mut_vec.ensures.shows i)) c.args.place (vertex_of (c.replace.ensures.after i)))
