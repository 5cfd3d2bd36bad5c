use Rattle.std.proofs.Common.{◌≡◌, map, take}
use Rattle.model_core.specs.Code.Views.{expression_of}
use Rattle.range_infer.specs.Inner.PartReads.{each_reads}
use Rattle.range_infer.proofs.part_reads.each_reads.Given as goal

abbrev pub invariant-loop-value : goal.invariant-loop-value
invariant-loop-value l = l.all.items ≡ each_reads (map expression_of (take l.value-index l.values))
