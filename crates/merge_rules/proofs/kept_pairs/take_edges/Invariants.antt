use Rattle.std.proofs.Common.{◌≡◌, map, drop}
use Rattle.model_core.specs.Code.Views.{edge_of}
use Rattle.merge_rules.specs.Inner.PairMoves.{edges_taken}
use Rattle.merge_rules.proofs.kept_pairs.take_edges.Given as goal

abbrev pub invariant-loop-edge : goal.invariant-loop-edge
invariant-loop-edge l = edges_taken (map edge_of (drop l.edge-index l.edges)) l.pairs.items ≡ edges_taken (map edge_of l.edges) l.initial.pairs.items
