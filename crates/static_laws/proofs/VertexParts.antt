-- The check of a vertex from those of its parameters, changes and edges.
use Rattle.std.proofs.Common.{◌≡◌, ℕ, List, [], map, Option}
use Rattle.std.specs.List.{flat_map}
use Rattle.sig_base.specs.declared.limits.TheConstants.{PARAMETERS_MAX, CHANGES_MAX, EDGES_MAX}
use Rattle.model_core.specs.declared.model.Kind.{Kind}
use Rattle.model_core.specs.EventGraph as graph
use Rattle.model_core.specs.Text.Written.{WrittenName, WrittenVertex, WrittenEdge}
use Rattle.model_core.specs.Text.Numbering as numbering
use Rattle.model_core.specs.Text.Numbering.{each_numbered, written_or}
use Rattle.model_core.specs.Static.FaultOrder.{StaticFault, earliest_fault}
use Rattle.model_core.specs.Static.Meanings.{Meaning, AsScalar}
use Rattle.model_core.specs.Static.RuleTable.{name_too_long, too_many}
use Rattle.model_core.specs.Static.PartFaults.{written_items, repeated_names, change_place, use_faults, change_faults, edge_faults, parameters_faults, vertex_faults}
use Rattle.static_laws.specs.Checked.{CheckedPart}
use Rattle.static_laws.proofs.LeftOut.{each_numbered-items}
use Rattle.static_laws.proofs.Checks.{both, made, before, after_faults, three_numbered}

module _ (means : List ℕ → Option Meaning) where
  pub parameters_checked : (t0 t1 t2 t3 : Option StaticFault) (ns : List WrittenName) (xs : List ℕ)
      → t1 ≡ earliest_fault t0 (too_many PARAMETERS_MAX (map (λ (n : WrittenName). n.at) ns))
      → CheckedPart means t1 t2 (flat_map (use_faults means AsScalar) ns) (λ d. each_numbered (numbering.numbered_parameter d) ns) xs
      → t3 ≡ earliest_fault t2 (repeated_names [] ns)
      → CheckedPart means t0 t3 (parameters_faults means [] ns) (λ d. each_numbered (numbering.numbered_parameter d) ns) xs
  parameters_checked t0 t1 t2 t3 ns xs short c repeated = before t3 (repeated_names [] ns) (after_faults t0 (too_many PARAMETERS_MAX (map (λ (n : WrittenName). n.at) ns)) short c) repeated

  pub vertex_checked : (taken : List (List (Option Kind))) (t0 t1 t2 t3 t4 t5 t6 : Option StaticFault) (v : WrittenVertex) (ps : List ℕ) (xs : List graph.StateChange) (ys : List graph.EventEdge)
      → t1 ≡ earliest_fault t0 (name_too_long v.name)
      → CheckedPart means t1 t2 (parameters_faults means [] (written_items v.parameters)) (λ d. each_numbered (numbering.numbered_parameter d) (written_items v.parameters)) ps
      → t3 ≡ earliest_fault t2 (too_many CHANGES_MAX (map change_place v.changes))
      → CheckedPart means t3 t4 (flat_map (change_faults means) v.changes) (λ d. each_numbered (numbering.change d) v.changes) xs
      → t5 ≡ earliest_fault t4 (too_many EDGES_MAX (map (λ (e : WrittenEdge). e.at) v.edges))
      → CheckedPart means t5 t6 (flat_map (edge_faults means taken) v.edges) (λ d. each_numbered (numbering.edge d) v.edges) ys
      → CheckedPart means t0 t6 (vertex_faults means taken v) (λ d. numbering.vertex d v) (record { name = v.name.name; parameters = ps; changes = xs; edges = ys })
  vertex_checked taken t0 t1 t2 t3 t4 t5 t6 v ps xs ys named params some changes few edges =
      made (λ h. three_numbered means (λ a b c. record { name = v.name.name; parameters = a; changes = b; edges = c })
      (λ d. written_or (each_numbered (numbering.numbered_parameter d)) [] v.parameters) (λ d. each_numbered (numbering.change d) v.changes) (λ d. each_numbered (numbering.edge d) v.edges)
      (λ d p. rw (← each_numbered-items (numbering.numbered_parameter d) v.parameters) (h.0.0 d p)) h.0.1 h.1)
      (both (before t5 (too_many EDGES_MAX (map (λ (e : WrittenEdge). e.at) v.edges)) (both (before t3 (too_many CHANGES_MAX (map change_place v.changes)) (after_faults t0 (name_too_long v.name) named params) some) changes) few) edges)
