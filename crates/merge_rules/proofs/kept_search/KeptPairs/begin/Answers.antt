use Rattle.std.proofs.Common.{◌∙◌, sym, ap, map, List, subst}
use Rattle.model_core.specs.declared.vertex.Vertex.{Vertex}
use Rattle.model_core.specs.Code.Views.{graph_of, vertex_of}
use Rattle.merge_rules.specs.KeptPairs.{PairsAreRight}
use Rattle.merge_rules.specs.Inner.PairMoves.{fresh_pair, all_edges_added}
use Rattle.merge_rules.proofs.PairsBetweenMerges.PairsKept.{are-fresh_pair}
use Rattle.merge_rules.proofs.kept_search.KeptPairs.begin.Goals as goal

pub returns : goal.returns
returns c =
    let g = graph_of c.args.model.now in
    subst (PairsAreRight g)
    (sym (c.in_ok-add_all_edges.ensures ∙ ap (λ (vs : List Vertex). all_edges_added (map vertex_of vs) c.in_ok-pairs.pairs.items) c.as_slice-vertices.ensures
    ∙ ap (all_edges_added g.vertices) (c.in_ok-pairs.ensures ∙ ap (λ (vs : List Vertex). map fresh_pair (map vertex_of vs)) c.as_slice-vertices.ensures)))
    (are-fresh_pair g)
