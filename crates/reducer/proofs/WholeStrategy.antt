-- One sweep of prune, one of settle, and then the first rule again and again are the strategy.
use Rattle.std.proofs.Common.{◌≡◌, ◌∙◌, List, [], ◌∷◌, ◌++◌, map, Some, sym, ap, ap₂, subst, append_assoc}
use Rattle.std.specs.List.{AllByRecursion}
use Rattle.model_core.specs.EventGraph.{EventGraph, EventVertex, EventEdge}
use Rattle.model_core.specs.Static.Reading.{IsValid}
use Rattle.model_core.specs.Rules.Prune.{has_refuted_condition}
use Rattle.model_core.specs.Rules.Settle.{can_be_settled}
use Rattle.model_core.specs.Rules.Reduction.{RuleApplication, applied, Chain, Strategy}
use Rattle.run_laws.proofs.EdgesAlike.{with_vertices}
use Rattle.model_core.proofs.NoEdgePasses.{first_edge-none}
use Rattle.edge_pruning.specs.declared.finding.EdgeRule.TheVariants as rules
use Rattle.reducer.specs.Inner.Sweep.{swept_vertex, applied_to_all}
use Rattle.reducer.specs.Inner.LaterRules.{NoEdgeRule, IsStrategyNoted, LeavesEdges}
use Rattle.reducer.proofs.PlacesByName.{vertices_distinct}
use Rattle.reducer.proofs.FirstRules.{AreFirst, are_first-chain, are_first-strategy}
use Rattle.reducer.proofs.SweepRules.{IsReady, AreReady, swept-none, swept-ready, sweep_rules}
use Rattle.reducer.proofs.StrategyEnds.{MergesTakeOne, later_rules_end}

edges_ready : (g : EventGraph) (es : List EventEdge) → AllByRecursion (IsReady rules.Prune g) es
edges_ready g [] = tt
edges_ready g (e ∷ es) = (tt, edges_ready g es)

prune_ready : (g : EventGraph) (vs : List EventVertex) → AreReady rules.Prune g vs
prune_ready g [] = tt
prune_ready g (v ∷ vs) = (edges_ready g v.edges, prune_ready g vs)

-- the graph after the sweep of prune, and after that of settle
abbrev pub after_prune : EventGraph → EventGraph
after_prune g = with_vertices g (map (swept_vertex rules.Prune g) g.vertices)

abbrev pub after_settle : EventGraph → EventGraph
after_settle g = with_vertices g (map (swept_vertex rules.Settle g) g.vertices)

-- what the law of chains gives
abbrev pub ChainsKeep : Type 0
ChainsKeep = (g : EventGraph) (applications : List RuleApplication) (h : EventGraph) → IsValid g → Chain g applications h → IsValid h

module _ (keep : ChainsKeep) (g : EventGraph) (valid : IsValid g) where
  abbrev pruned : EventGraph
  pruned = after_prune g

  abbrev settled : EventGraph
  settled = after_settle pruned

  abbrev prunes : List RuleApplication
  prunes = applied_to_all rules.Prune g g.vertices

  abbrev settles : List RuleApplication
  settles = applied_to_all rules.Settle pruned pruned.vertices

  first : AreFirst g prunes pruned
  first = sweep_rules rules.Prune g g.vertices (prune_ready g g.vertices) (vertices_distinct g valid)

  pruned_valid : IsValid pruned
  pruned_valid = keep g prunes pruned valid (are_first-chain prunes g pruned first)

  ready : AreReady rules.Settle pruned pruned.vertices
  ready = swept-none rules.Prune g g.vertices

  second : AreFirst pruned settles settled
  second = sweep_rules rules.Settle pruned pruned.vertices ready (vertices_distinct pruned pruned_valid)

  pub settled_valid : IsValid settled
  settled_valid = keep pruned settles settled pruned_valid (are_first-chain settles pruned settled second)

  pub none_left : NoEdgeRule settled
  none_left = record {
    refuted = first_edge-none (has_refuted_condition settled) 0 settled.vertices (swept-ready rules.Settle pruned pruned.vertices ready);
    settled = first_edge-none (can_be_settled settled) 0 settled.vertices (swept-none rules.Settle pruned pruned.vertices);
  }

  pub with_sweeps : (later : List RuleApplication) (h : EventGraph) → Strategy settled later h → Strategy g (prunes ++ (settles ++ later)) h
  with_sweeps later h strategy = are_first-strategy prunes (settles ++ later) g pruned h first (are_first-strategy settles later pruned settled h second strategy)

pub whole_strategy : ChainsKeep → ((g h : EventGraph) (a : RuleApplication) → IsValid g → applied g a ≡ Some h → IsValid h) → LeavesEdges → MergesTakeOne → (g : EventGraph) → IsValid g → (applications : List RuleApplication) × (h : EventGraph) × Strategy g applications h
whole_strategy keep one_valid leaves takes g valid =
    let (later, h, strategy) = later_rules_end one_valid leaves takes (after_settle (after_prune g)) (settled_valid keep g valid) (none_left keep g valid) in
    (_, h, with_sweeps keep g valid later h strategy)

-- the whole from what the parts are known to give: the graph after each, and the applications noted so far
pub strategy_made : ChainsKeep → (g pruned settled left : EventGraph) (at_first after_prunes after_settles all : List RuleApplication) → IsValid g
    → pruned ≡ after_prune g → settled ≡ after_settle pruned
    → at_first ≡ [] → after_prunes ≡ at_first ++ applied_to_all rules.Prune g g.vertices → after_settles ≡ after_prunes ++ applied_to_all rules.Settle pruned pruned.vertices → IsStrategyNoted settled left after_settles all
    → Strategy g all left
strategy_made keep g pruned settled left at_first after_prunes after_settles all valid is_pruned is_settled none prunes_noted settles_noted (later, later_noted, strategy) =
    let prunes = applied_to_all rules.Prune g g.vertices in
    let settles = applied_to_all rules.Settle (after_prune g) (after_prune g).vertices in
    let last = after_settle (after_prune g) in
    let settled_is : settled ≡ last = is_settled ∙ ap after_settle is_pruned in
    let applications : all ≡ prunes ++ (settles ++ later) =
    later_noted
    ∙ ap (λ (xs : List RuleApplication). xs ++ later)
    (settles_noted ∙ ap₂ (λ (xs : List RuleApplication) (h : EventGraph). xs ++ applied_to_all rules.Settle h h.vertices) (prunes_noted ∙ ap (λ (xs : List RuleApplication). xs ++ prunes) none) is_pruned)
    ∙ append_assoc prunes settles later in
    subst (λ (xs : List RuleApplication). Strategy g xs left) (sym applications)
    (with_sweeps keep g valid later left (subst (λ (h : EventGraph). Strategy h later left) settled_is strategy))

-- what is swept is valid, and no rule of edges applies to it
pub swept_valid : ChainsKeep → (g pruned settled : EventGraph) → IsValid g → pruned ≡ after_prune g → settled ≡ after_settle pruned → IsValid settled
swept_valid keep g pruned settled valid is_pruned is_settled = subst IsValid (sym (is_settled ∙ ap after_settle is_pruned)) (settled_valid keep g valid)

pub swept_none : ChainsKeep → (g pruned settled : EventGraph) → IsValid g → pruned ≡ after_prune g → settled ≡ after_settle pruned → NoEdgeRule settled
swept_none keep g pruned settled valid is_pruned is_settled = subst NoEdgeRule (sym (is_settled ∙ ap after_settle is_pruned)) (none_left keep g valid)
