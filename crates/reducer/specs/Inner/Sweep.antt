-- What one sweep of a rule of edges over vertices applies, and what it leaves.
use Rattle.std.specs.Prelude.{ℕ, ◌+◌, Bool, true, false, cond, List, [], ◌∷◌}
use Rattle.std.specs.List.{flat_map}
use Rattle.model_core.specs.EventGraph.{EventEdge, EventVertex, EventGraph}
use Rattle.model_core.specs.Rules.Settle.{with_true_condition}
use Rattle.model_core.specs.Rules.Reduction.{RuleApplication}
use Rattle.edge_pruning.specs.declared.finding.EdgeRule.{EdgeRule}
use Rattle.edge_pruning.specs.declared.finding.EdgeRule.TheVariants as rules
use Rattle.edge_pruning.specs.EdgeRules.{edge_test}
use Rattle.reduction_cert.specs.EdgeApplications.{application_by}

-- ---- one rule of edges

-- the edges in place of an edge to which the rule was applied
abbrev pub edges_instead : EdgeRule → EventEdge → List EventEdge
edges_instead rules.Prune e = []
edges_instead rules.Settle e = with_true_condition e ∷ []

-- how many these are
abbrev pub count_instead : EdgeRule → ℕ
count_instead rules.Prune = 0
count_instead rules.Settle = 1

-- what the sweep leaves of an edge
abbrev pub left_by_sweep : EdgeRule → EventGraph → EventEdge → List EventEdge
left_by_sweep rule g e = cond (edge_test rule g e) (edges_instead rule e) (e ∷ [])

abbrev pub swept_vertex : EdgeRule → EventGraph → EventVertex → EventVertex
swept_vertex rule g v = record v { edges = flat_map (left_by_sweep rule g) v.edges }

-- the application to an edge after so many, where the rule applies, and those to the edges after it
abbrev pub applied_where : EdgeRule → List ℕ → ℕ → Bool → (ℕ → List RuleApplication) → List RuleApplication
applied_where rule name before true later = application_by rule name (before + 1) ∷ later (before + count_instead rule)
applied_where rule name before false later = later (before + 1)

-- the applications to a vertex's edges, after so many
abbrev pub applied_after : EdgeRule → EventGraph → List ℕ → ℕ → List EventEdge → List RuleApplication
applied_after rule g name before [] = []
applied_after rule g name before (e ∷ es) = applied_where rule name before (edge_test rule g e) (λ k. applied_after rule g name k es)

abbrev pub applied_to : EdgeRule → EventGraph → EventVertex → List RuleApplication
applied_to rule g v = applied_after rule g v.name 0 v.edges

abbrev pub applied_to_all : EdgeRule → EventGraph → List EventVertex → List RuleApplication
applied_to_all rule g vs = flat_map (applied_to rule g) vs

-- ---- one edge

-- the condition is `true` where it is proved
abbrev pub settled_if_proved : EventGraph → EventEdge → EventEdge
settled_if_proved g e = cond (edge_test rules.Settle g e) (with_true_condition e) e

-- the application to an edge after so many, where the rule applies
abbrev pub application_here : EdgeRule → List ℕ → ℕ → Bool → List RuleApplication
application_here rule name before applies = cond applies (application_by rule name (before + 1) ∷ []) []

-- how many edges are before the next one
abbrev pub next_before : EdgeRule → ℕ → Bool → ℕ
next_before rule before applies = before + cond applies (count_instead rule) 1
