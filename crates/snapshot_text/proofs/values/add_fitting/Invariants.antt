use Rattle.std.proofs.Common.{◌≡◌, ◌++◌, map, drop}
use Rattle.std.specs.List.{list_all}
use Rattle.model_core.specs.Code.WrittenViews.{written_signed}
use Rattle.model_core.specs.Saved.GoodSnapshots.{signed_values}
use Rattle.snapshot_text.specs.Inner.Judging.{fits_between}
use Rattle.snapshot_text.proofs.values.add_fitting.Given as goal

abbrev pub invariant-loop-signed : goal.invariant-loop-signed
invariant-loop-signed l =
    (list_all (fits_between l.limits.lo l.limits.hi) (map written_signed (drop l.signed-index l.values)) ≡ list_all (fits_between l.limits.lo l.limits.hi) (map written_signed l.values))
    × (l.out.items ++ signed_values (map written_signed (drop l.signed-index l.values)) ≡ l.fn.out.items ++ signed_values (map written_signed l.values))
