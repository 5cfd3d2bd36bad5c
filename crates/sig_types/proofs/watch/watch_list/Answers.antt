use Rattle.std.proofs.Common.{[], map}
use Rattle.model_core.specs.Code.WrittenViews.{written_name}
use Rattle.model_core.specs.Static.PartFaults.{repeated_names}
use Rattle.static_laws.proofs.Checks.{before}
use Rattle.sig_types.proofs.watch.watch_list.Goals as goal

pub returns : goal.returns
returns c = before _ (repeated_names [] (map written_name c.args.raws.now)) c.in_ok-watch.ensures c.in_ok-report_repeats.ensures
