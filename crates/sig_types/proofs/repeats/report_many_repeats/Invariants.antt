use Rattle.std.proofs.Common.{◌≡◌, [], map, take}
use Rattle.model_core.specs.Code.WrittenViews.{written_name}
use Rattle.model_core.specs.Static.FaultOrder.{earliest_fault}
use Rattle.model_core.specs.Static.PartFaults.{repeated_names}
use Rattle.sig_types.proofs.EarlierNames.{names_before, SameNames}
use Rattle.sig_types.proofs.repeats.report_many_repeats.Given as goal

-- those of the names before this one that are reported, and the names before it
abbrev pub invariant-loop-raw : goal.invariant-loop-raw
invariant-loop-raw l =
    let seen = map written_name (take l.raw-index l.raws) in
    record {
      earliest : l.fault ≡ earliest_fault l.fn.fault (repeated_names [] seen);
      seen_names : SameNames (map (λ k. k.now) l.earlier.keys) (names_before [] seen);
    }
