use Rattle.std.proofs.Common.{◌≡◌, map, drop}
use Rattle.model_core.specs.Code.Views.{edge_of}
use Rattle.conflict_report.specs.Inner.TouchedLists.{after_edges}
use Rattle.conflict_report.proofs.touched_numbers.TouchedNumbers.add_edges.Given as goal

abbrev pub invariant-loop-edge : goal.invariant-loop-edge
invariant-loop-edge l = after_edges (map edge_of (drop l.edge-index l.edges)) l.self ≡ after_edges (map edge_of l.edges) l.initial.self
