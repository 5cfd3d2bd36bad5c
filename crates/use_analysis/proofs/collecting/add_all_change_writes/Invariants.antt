use Rattle.std.proofs.Common.{◌≡◌, ◌++◌, map, take}
use Rattle.std.specs.List.{flat_map}
use Rattle.model_core.specs.Rules.Uses.{change_writes}
use Rattle.model_core.specs.Code.Views.{change_of}
use Rattle.use_analysis.proofs.collecting.add_all_change_writes.Given as goal

abbrev pub invariant-loop-change : goal.invariant-loop-change
invariant-loop-change l = l.out.items ≡ l.initial.out.items ++ flat_map change_writes (map change_of (take l.change-index l.changes))
