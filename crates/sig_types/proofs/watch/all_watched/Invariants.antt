use Rattle.std.proofs.Common.{map, take}
use Rattle.std.specs.List.{flat_map}
use Rattle.model_core.specs.Code.Views.{watched_of}
use Rattle.model_core.specs.Code.WrittenViews.{written_name}
use Rattle.model_core.specs.Text.Numbering.{each_numbered, watched}
use Rattle.model_core.specs.Static.Meanings.{AsWatched, meaning_of}
use Rattle.model_core.specs.Static.PartFaults.{use_faults}
use Rattle.static_laws.specs.Checked.{CheckedPart}
use Rattle.sig_types.proofs.watch.all_watched.Given as goal

-- the names before this one are checked
abbrev pub invariant-loop-raw : goal.invariant-loop-raw
invariant-loop-raw l =
    let seen = map written_name (take l.raw-index l.raws) in
    CheckedPart (meaning_of l.names) l.fn.fault l.fault (flat_map (use_faults (meaning_of l.names) AsWatched) seen) (λ d. each_numbered (watched d) seen) (map watched_of l.watch.items)
