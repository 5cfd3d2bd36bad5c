use Rattle.model_core.specs.Rules.Prune.{pruned}
use Rattle.bound_laws.proofs.BeginsInRange.{kept_models_begin_in_range}
use Rattle.edge_pruning.proofs.SameRuns.{idle_edge_may_go}
use Rattle.edge_pruning.proofs.OneVertexChanged.{changed_rules, changed_spellable}
use Rattle.edge_pruning.proofs.FewerOrFreer.{remove_lessens, pruned_is_refuted, edge_keeps}
use Rattle.edge_pruning.proofs.law.pruning_keeps_the_meaning.Goals as goal

pub returns-clause-valid : goal.returns-clause-valid
returns-clause-valid c = λ g vertex edge valid none.
    let p = (c.validity_is_by_parts.ensures.by_parts g).0 valid in
    (c.validity_is_by_parts.ensures.by_parts (pruned g vertex edge)).1 (changed_rules g vertex _ (remove_lessens edge) p.0, changed_spellable g vertex _ (remove_lessens edge) p.1)

pub returns-clause-same : goal.returns-clause-same
returns-clause-same c = λ g vertex edge valid none.
    let k = ((c.validity_is_by_parts.ensures.by_parts g).0 valid).0.parts in
    idle_edge_may_go g vertex edge (kept_models_begin_in_range g k)
    (λ e is s inside clk early. c.values_lie_in_bounds.ensures.never g s clk e.condition k.variables inside early (edge_keeps g vertex edge e k is).condition (pruned_is_refuted g vertex edge none e is))
