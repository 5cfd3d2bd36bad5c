use Rattle.model_core.specs.Code.Views.{graph_of}
use Rattle.model_pairs.proofs.shown_run.begin.Goals as goal

-- a valid model can be run
pub begin_with-requires-clause-possible : goal.begin_with-requires-clause-possible
begin_with-requires-clause-possible c =
    let kept = (c.validity_is_by_parts.ensures.by_parts (graph_of c.args.starts.now.model)).0 c.requires in
    c.kept_models_can_be_run.ensures (graph_of c.args.starts.now.model) kept.0 kept.1
