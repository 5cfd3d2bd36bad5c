use Rattle.std.proofs.Common.{◌≤◌, length, map}
use Rattle.model_core.specs.Code.Views.{location_of}
use Rattle.model_core.specs.Text.Language.{target_format}
use Rattle.model_core.specs.Static.Meanings.{meaning_of}
use Rattle.one_pass.specs.Inner.ReadTargets.{IsTarget}
use Rattle.one_pass.proofs.RowsInTurn.{RowSoFar}
use Rattle.one_pass.proofs.changes.targets.Given as goal

-- the targets that were read are those before what is left, and no more than the limit
abbrev pub invariant-loop-alloc : goal.invariant-loop-alloc
invariant-loop-alloc l = record {
  so_far : RowSoFar target_format (IsTarget (meaning_of l.names)) l.fn.cursor l.cursor (map location_of l.targets) l.kinds.items;
  within : length l.kinds.items ≤ l.limit;
}

abbrev pub decreases-loop-alloc : goal.decreases-loop-alloc
decreases-loop-alloc l = length l.cursor
