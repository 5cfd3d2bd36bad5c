use Rattle.std.proofs.Common.{◌≡◌, map, take}
use Rattle.model_core.specs.Code.Views.{vertex_of}
use Rattle.merge_rules.specs.Inner.PairMoves.{fresh_pair}
use Rattle.merge_rules.proofs.kept_pairs.fresh_pairs.Given as goal

abbrev pub invariant-loop-vertex : goal.invariant-loop-vertex
invariant-loop-vertex l = l.pairs.items ≡ map fresh_pair (map vertex_of (take l.vertex-index l.vertices))
