-- The place that follows a vertex is where its edge leads.
use Rattle.std.proofs.Common.{◌∙◌, sym, ap, slice_get, List, ℕ}
use Rattle.model_core.specs.EventGraph.{EventEdge}
use Rattle.model_core.specs.Code.Views.{graph_of}
use Rattle.edge_pruning.specs.Inner.Walk.{targets_of}
use Rattle.edge_pruning.proofs.ReachedMarks.{successors-targets}
use Rattle.edge_pruning.proofs.walk.TargetsPlaceSuccessors.nth_successor.Goals as goal

pub returns : goal.returns
returns c =
    c.target_at.ensures
    ∙ ap (λ (es : List EventEdge). slice_get (targets_of es) c.args.nth) c.edges_at.ensures
    ∙ sym (ap (λ (ks : List ℕ). slice_get ks c.args.nth) (successors-targets (graph_of c.args.self.now.model.now).vertices c.args.place))
