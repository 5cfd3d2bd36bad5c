use Rattle.std.proofs.Common.{◌≡◌, map, drop}
use Rattle.model_core.specs.Code.Views.{change_of}
use Rattle.conflict_report.specs.Inner.TouchedLists.{after_changes}
use Rattle.conflict_report.proofs.touched_numbers.TouchedNumbers.add_changes.Given as goal

abbrev pub invariant-loop-change : goal.invariant-loop-change
invariant-loop-change l = after_changes (map change_of (drop l.change-index l.changes)) l.self ≡ after_changes (map change_of l.changes) l.initial.self
