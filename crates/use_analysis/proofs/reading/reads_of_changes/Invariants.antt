use Rattle.std.proofs.Common.{◌≡◌, map, drop}
use Rattle.std.specs.List.{flat_map}
use Rattle.model_core.specs.Rules.MarkedPlaces.{is_among}
use Rattle.model_core.specs.Rules.Uses.{change_reads}
use Rattle.model_core.specs.Code.Views.{change_of}
use Rattle.use_analysis.proofs.reading.reads_of_changes.Given as goal

abbrev pub invariant-loop-change : goal.invariant-loop-change
invariant-loop-change l =
    is_among (flat_map change_reads (map change_of (drop l.change-index l.changes))) l.var ≡ is_among (flat_map change_reads (map change_of l.changes)) l.var
