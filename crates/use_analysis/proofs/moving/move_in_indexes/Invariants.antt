use Rattle.std.proofs.Common.{◌≡◌, map, drop}
use Rattle.std.specs.List.{flat_map}
use Rattle.model_core.specs.Rules.Uses.{location_reads}
use Rattle.model_core.specs.Code.Views.{location_of}
use Rattle.use_analysis.specs.Inner.Moving.{moved_at}
use Rattle.use_analysis.proofs.moving.move_in_indexes.Given as goal

abbrev pub invariant-loop-target : goal.invariant-loop-target
invariant-loop-target l =
    moved_at l.part (flat_map location_reads (map location_of (drop l.target-index l.targets))) l.numbers
    ≡ moved_at l.part (flat_map location_reads (map location_of l.targets)) l.initial.numbers
