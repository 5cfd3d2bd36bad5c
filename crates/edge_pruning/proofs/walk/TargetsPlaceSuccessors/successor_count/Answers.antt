-- As many places follow a vertex as it has edges.
use Rattle.std.proofs.Common.{◌∙◌, sym, ap, length, map, List}
use Rattle.std.proofs.lemmas.List.{length-map}
use Rattle.model_core.specs.EventGraph.{EventEdge}
use Rattle.model_core.specs.Code.Views.{graph_of, edge_of}
use Rattle.edge_pruning.specs.Inner.Walk.{targets_of}
use Rattle.edge_pruning.proofs.ReachedMarks.{successors-targets}
use Rattle.edge_pruning.proofs.walk.TargetsPlaceSuccessors.successor_count.Goals as goal

pub returns : goal.returns
returns c =
    sym (length-map c.edges_at.result.now edge_of)
    ∙ sym (length-map (map edge_of c.edges_at.result.now) (λ (e : EventEdge). e.target))
    ∙ ap (λ (es : List EventEdge). length (targets_of es)) c.edges_at.ensures
    ∙ sym (ap length (successors-targets (graph_of c.args.self.now.model.now).vertices c.args.place))
