use Rattle.std.proofs.Common.{◌≡◌, map, take}
use Rattle.model_core.specs.Code.Views.{edge_of}
use Rattle.range_infer.specs.Inner.PartReads.{carried_reads}
use Rattle.range_infer.proofs.part_reads.all_carried_reads.Given as goal

abbrev pub invariant-loop-edge : goal.invariant-loop-edge
invariant-loop-edge l = l.all.items ≡ map carried_reads (map edge_of (take l.edge-index l.edges))
