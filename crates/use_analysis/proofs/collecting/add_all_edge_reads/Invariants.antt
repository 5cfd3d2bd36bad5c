use Rattle.std.proofs.Common.{◌≡◌, ◌++◌, map, take}
use Rattle.std.specs.List.{flat_map}
use Rattle.model_core.specs.Rules.Uses.{edge_reads}
use Rattle.model_core.specs.Code.Views.{edge_of}
use Rattle.use_analysis.proofs.collecting.add_all_edge_reads.Given as goal

abbrev pub invariant-loop-edge : goal.invariant-loop-edge
invariant-loop-edge l = l.out.items ≡ l.initial.out.items ++ flat_map edge_reads (map edge_of (take l.edge-index l.edges))
