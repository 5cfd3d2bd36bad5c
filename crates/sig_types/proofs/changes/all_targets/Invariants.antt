use Rattle.std.proofs.Common.{◌≡◌, map, take}
use Rattle.std.specs.List.{flat_map}
use Rattle.model_core.specs.Code.Views.{location_of}
use Rattle.model_core.specs.Code.WrittenViews.{written_target}
use Rattle.model_core.specs.Text.Numbering.{each_numbered, location}
use Rattle.model_core.specs.Static.Meanings.{meaning_of}
use Rattle.model_core.specs.Static.PartFaults.{target_faults, target_kind}
use Rattle.static_laws.specs.Checked.{CheckedPart}
use Rattle.sig_types.proofs.changes.all_targets.Given as goal

-- the targets before this one are checked, and their kinds are known
abbrev pub invariant-loop-raw : goal.invariant-loop-raw
invariant-loop-raw l =
    let seen = map written_target (take l.raw-index l.raws) in
    record {
      checked : CheckedPart (meaning_of l.names) l.fn.fault l.fault (flat_map (target_faults (meaning_of l.names)) seen) (λ d. each_numbered (location d) seen) (map location_of l.targets.items);
      kinds : l.kinds.items ≡ map (target_kind (meaning_of l.names)) seen;
    }
