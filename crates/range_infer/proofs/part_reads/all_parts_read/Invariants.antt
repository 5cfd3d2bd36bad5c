use Rattle.std.proofs.Common.{◌≡◌, map, take}
use Rattle.model_core.specs.Code.Views.{vertex_of}
use Rattle.range_infer.specs.Inner.PartReads.{parts_read}
use Rattle.range_infer.proofs.part_reads.all_parts_read.Given as goal

abbrev pub invariant-loop-vertex : goal.invariant-loop-vertex
invariant-loop-vertex l = l.all.items ≡ map parts_read (map vertex_of (take l.vertex-index l.model.vertices))
