use Rattle.std.proofs.Common.{◌≡◌, map, drop}
use Rattle.model_core.specs.Code.Views.{vertex_of}
use Rattle.merge_rules.specs.Inner.PairMoves.{all_edges_added}
use Rattle.merge_rules.proofs.kept_pairs.add_all_edges.Given as goal

abbrev pub invariant-loop-vertex : goal.invariant-loop-vertex
invariant-loop-vertex l = all_edges_added (map vertex_of (drop l.vertex-index l.vertices)) l.pairs.items ≡ all_edges_added (map vertex_of l.vertices) l.initial.pairs.items
