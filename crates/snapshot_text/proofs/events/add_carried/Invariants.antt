use Rattle.std.proofs.Common.{◌≡◌, ◌≤◌, ◌+◌, ◌-◌, ◌++◌, length, map, drop}
use Rattle.std.specs.List.{list_all}
use Rattle.sig_base.specs.declared.limits.TheConstants.{PARAMETERS_MAX}
use Rattle.model_core.specs.Saved.GoodSnapshots.{carried_of, is_wide}
use Rattle.snapshot_text.specs.Inner.RawParts.{written_carried}
use Rattle.snapshot_text.proofs.events.add_carried.Given as goal

abbrev pub invariant-loop-carried : goal.invariant-loop-carried
invariant-loop-carried l =
    (list_all is_wide (map written_carried (drop l.carried-index l.written)) ≡ list_all is_wide (map written_carried l.written))
    × (l.values.items ++ map carried_of (map written_carried (drop l.carried-index l.written)) ≡ l.fn.values.items ++ map carried_of (map written_carried l.written))
    × (length l.values.items + (length l.written - l.carried-index) ≤ PARAMETERS_MAX)
