use Rattle.std.proofs.Common.{◌≡◌, map, drop}
use Rattle.std.specs.List.{list_any}
use Rattle.model_core.specs.Rules.Merge.{leads_to}
use Rattle.model_core.specs.Code.Views.{edge_of}
use Rattle.twin_rules.proofs.pair_search.one_leads.Given as goal

abbrev pub invariant-loop-edge : goal.invariant-loop-edge
invariant-loop-edge l =
    list_any (leads_to l.target) (map edge_of (drop l.edge-index l.edges))
    ≡ list_any (leads_to l.target) (map edge_of l.edges)
