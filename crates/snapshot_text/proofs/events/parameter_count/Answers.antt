-- They are those of the vertex.
use Rattle.std.proofs.Common.{◌≤◌, arith, length, ap}
use Rattle.sig_base.specs.declared.limits.TheConstants.{PARAMETERS_MAX}
use Rattle.sig_base.proofs.Lists.{slice_index_or-all}
use Rattle.model_core.specs.EventGraph.{EventVertex}
use Rattle.model_core.specs.Run.Step.{no_vertex, vertex_at}
use Rattle.model_core.specs.Code.Views.{graph_of}
use Rattle.snapshot_text.proofs.events.parameter_count.Goals as goal

pub returns-clause-within_limit : goal.returns-clause-within_limit
returns-clause-within_limit c =
    let few : length (vertex_at (graph_of c.args.model.now) c.args.vertex).parameters ≤ PARAMETERS_MAX = slice_index_or-all (λ (v : EventVertex). length v.parameters ≤ PARAMETERS_MAX) (graph_of c.args.model.now).vertices no_vertex c.args.vertex c.requires (omega arith) in
    omega (arith, ap length c.parameters_at.ensures, few)
