use Rattle.std.proofs.Common.{◌≡◌, map, drop}
use Rattle.std.specs.List.{list_any}
use Rattle.model_core.specs.Rules.Merge.{cancels}
use Rattle.model_core.specs.Code.Views.{edge_of}
use Rattle.model_core.proofs.watching.one_cancels.Given as goal

abbrev pub invariant-loop-edge : goal.invariant-loop-edge
invariant-loop-edge l =
    list_any (cancels l.target) (map edge_of (drop l.edge-index l.edges))
    ≡ list_any (cancels l.target) (map edge_of l.edges)
