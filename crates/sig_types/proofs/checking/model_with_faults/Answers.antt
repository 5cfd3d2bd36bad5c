use Rattle.model_core.specs.Code.Views.{graph_of}
use Rattle.model_core.specs.Code.WrittenViews.{written_model}
use Rattle.static_laws.proofs.WholeModel.{version_first, first_fault-in_turn}
use Rattle.sig_types.proofs.checking.model_with_faults.Goals as goal

pub returns-clause-earliest : goal.returns-clause-earliest
returns-clause-earliest c =
    let m = written_model c.args.raw in
    first_fault-in_turn m (graph_of c.in_ok-model.model) c.numbered.new.fault _ (version_first m c.report_version.new.fault c.numbered.new.fault (rw c.requires at c.report_version.ensures) c.in_ok-model.ensures) c.report_long_text.ensures.none c.report_long_text.ensures.some
