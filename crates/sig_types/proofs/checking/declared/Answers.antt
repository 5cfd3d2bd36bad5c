use Rattle.std.proofs.Common.{◌++◌, [], map}
use Rattle.model_core.specs.Code.WrittenViews.{written_model}
use Rattle.model_core.specs.Static.Meanings.{declarations, declared_name}
use Rattle.model_core.specs.Static.RuleTable.{name_too_long}
use Rattle.model_core.specs.Static.PartFaults.{repeated_names}
use Rattle.model_core.specs.Static.ModelFaults.{faults_of_counts}
use Rattle.static_laws.proofs.Checks.{earliest_in_turn}
use Rattle.sig_types.proofs.checking.declared.Goals as goal

pub returns-clause-earliest : goal.returns-clause-earliest
returns-clause-earliest c =
    let m = written_model c.args.raw.now in
    let again = repeated_names [] (map declared_name (declarations m)) in
    earliest_in_turn _ c.names_of.new.fault _ (name_too_long m.name ++ again) (faults_of_counts m)
    (earliest_in_turn _ c.report_long_name.new.fault c.names_of.new.fault (name_too_long m.name) again c.report_long_name.ensures c.in_ok-names.ensures.earliest) c.report_counts.ensures
