use Rattle.std.proofs.Common.{map, take}
use Rattle.std.specs.List.{flat_map}
use Rattle.model_core.specs.Code.Views.{edge_of}
use Rattle.model_core.specs.Conflicts.Priorities.{edge_priorities}
use Rattle.conflict_report.specs.Inner.NumberHolders.{HoldMore}
use Rattle.conflict_report.proofs.priorities.note_edges.Given as goal

abbrev pub invariant-loop-edge : goal.invariant-loop-edge
invariant-loop-edge l = HoldMore (λ j. flat_map (edge_priorities j) (map edge_of (take l.edge-index l.edges))) l.initial.holders l.holders
