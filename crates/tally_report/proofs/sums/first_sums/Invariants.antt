use Rattle.std.proofs.Common.{◌≡◌, map, take}
use Rattle.model_core.specs.Code.Views.{graph_of, watched_of}
use Rattle.tally_report.specs.Inner.Sums.{sums_from}
use Rattle.tally_report.proofs.sums.first_sums.Given as goal

abbrev pub invariant-loop-place : goal.invariant-loop-place
invariant-loop-place l = l.sums.items ≡ sums_from (graph_of l.model) 0 (map watched_of (take l.place l.model.watch))
