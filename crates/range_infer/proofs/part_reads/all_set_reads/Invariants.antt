use Rattle.std.proofs.Common.{◌≡◌, map, take}
use Rattle.model_core.specs.Code.Views.{change_of}
use Rattle.range_infer.specs.Inner.PartReads.{set_reads}
use Rattle.range_infer.proofs.part_reads.all_set_reads.Given as goal

abbrev pub invariant-loop-change : goal.invariant-loop-change
invariant-loop-change l = l.all.items ≡ map set_reads (map change_of (take l.change-index l.changes))
