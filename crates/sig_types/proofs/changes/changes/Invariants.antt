use Rattle.std.proofs.Common.{map, take}
use Rattle.std.specs.List.{flat_map}
use Rattle.model_core.specs.Code.Views.{change_of}
use Rattle.model_core.specs.Code.WrittenViews.{written_change}
use Rattle.model_core.specs.Text.Numbering.{each_numbered, change}
use Rattle.model_core.specs.Static.Meanings.{meaning_of}
use Rattle.model_core.specs.Static.PartFaults.{change_faults}
use Rattle.static_laws.specs.Checked.{CheckedPart}
use Rattle.sig_types.proofs.changes.changes.Given as goal

-- the changes before this one are checked
abbrev pub invariant-loop-raw : goal.invariant-loop-raw
invariant-loop-raw l =
    let seen = map written_change (take l.raw-index l.raws) in
    CheckedPart (meaning_of l.names) l.fn.fault l.fault (flat_map (change_faults (meaning_of l.names)) seen) (λ d. each_numbered (change d) seen) (map change_of l.changes.items)
