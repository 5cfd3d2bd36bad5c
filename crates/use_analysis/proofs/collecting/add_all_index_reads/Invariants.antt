use Rattle.std.proofs.Common.{◌≡◌, ◌++◌, map, take}
use Rattle.std.specs.List.{flat_map}
use Rattle.model_core.specs.Rules.Uses.{location_reads}
use Rattle.model_core.specs.Code.Views.{location_of}
use Rattle.use_analysis.proofs.collecting.add_all_index_reads.Given as goal

abbrev pub invariant-loop-target : goal.invariant-loop-target
invariant-loop-target l = l.out.items ≡ l.initial.out.items ++ flat_map location_reads (map location_of (take l.target-index l.targets))
