use Rattle.std.proofs.Common.{sym, subst}
use Rattle.model_core.specs.Code.Views.{graph_of}
use Rattle.run_control.specs.ModelWithStarts.{ModelWithStarts}
use Rattle.run_control.specs.PossibleModel.{PossibleModel}
use Rattle.job_answers.proofs.beginning.begin.Goals as goal

-- a valid model can be run
pub check_starts-requires : goal.check_starts-requires
check_starts-requires c =
    let kept = (c.validity_is_by_parts.ensures.by_parts (graph_of c.args.model.now)).0 c.requires in
    c.kept_models_can_be_run.ensures (graph_of c.args.model.now) kept.0 kept.1

pub begin_with-requires-clause-possible : goal.begin_with-requires-clause-possible
begin_with-requires-clause-possible c =
    let kept = (c.validity_is_by_parts.ensures.by_parts (graph_of c.args.model.now)).0 c.requires in
    subst (λ (s : ModelWithStarts). PossibleModel (graph_of s.model)) (sym c.in_ok-starts.ensures.holds) (c.kept_models_can_be_run.ensures (graph_of c.args.model.now) kept.0 kept.1)
