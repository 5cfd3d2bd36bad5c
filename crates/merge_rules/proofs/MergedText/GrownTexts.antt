-- The text of the result of a merge is longer by the lines that the merge adds, and shorter by that of the plain urgent edge;
-- so are the lines of what the first vertex does.
use Rattle.std.proofs.Common.{◌≡◌, ℕ, zero, suc, ◌+◌, ◌<◌, ◌≤◌, List, [], ◌∷◌, length, slice_get, slice_index_or, Option, Some, refl, sym, ◌∙◌, ap, arith, length-append}
use Rattle.std.specs.List.{flat_map}
use Rattle.std.specs.Option.{option_map_or, option_and_then}
use Rattle.model_core.specs.EventGraph.{EventGraph, EventVertex, EventEdge}
use Rattle.model_core.specs.Run.Step.{vertex_at, no_vertex}
use Rattle.model_core.specs.Text.Canonical.{canonical, change_line, edge_line}
use Rattle.model_core.specs.Rules.Prune.{pruned}
use Rattle.model_core.specs.Rules.UrgentEdges.{plain_urgent_edge}
use Rattle.model_core.specs.Rules.Merge.{set_parameters, merged}
use Rattle.vertex_laws.specs.BodyLines.{body_lines}
use Rattle.merge_rules.specs.Growth.{lines_set, lines_taken_over, bytes_added, bytes_set, bytes_gone}
use Rattle.merge_rules.proofs.OneStepForTwo.EdgesAside.{urgent_edge}
use Rattle.merge_rules.proofs.SingleUrgentModels.PlainEdges.{PlainEdge}
use Rattle.merge_rules.proofs.MergedText.MergedLength.{added, rest_length, merged_length, merged_body, edge_within}

pub there-is : {A : Type 0} (xs : List A) (k : ℕ) (d : A) → k < length xs → slice_get xs k ≡ Some (slice_index_or xs k d)
there-is [] k d below = absurd (omega (arith, below))
there-is (x ∷ xs) zero d below = refl
there-is (x ∷ xs) (suc k) d below = there-is xs k d (omega (arith, below))

module _ (g : EventGraph) (first second : ℕ) (p : PlainEdge (vertex_at g first) second) where
  abbrev b : EventVertex
  b = vertex_at g second

  edge-is : plain_urgent_edge (vertex_at g first) ≡ Some (urgent_edge second p.values)
  edge-is = ap (option_and_then (slice_get (vertex_at g first).edges)) p.is ∙ p.there

  pub gone-is : bytes_gone g first ≡ length (edge_line g (urgent_edge second p.values))
  gone-is = ap (λ (o : Option EventEdge). option_map_or (λ (e : EventEdge). length (edge_line g e)) o 0) edge-is

  pub set-is : bytes_set g first ≡ length (flat_map (change_line g) (set_parameters b.parameters p.values))
  set-is = ap (λ (o : Option EventEdge). option_map_or (λ (e : EventEdge). length (lines_set g e)) o 0) edge-is

  pub added-is : bytes_added g first ≡ length (flat_map (change_line g) (set_parameters b.parameters p.values)) + length (body_lines g b)
  added-is = ap (λ (o : Option EventEdge). option_map_or (λ (e : EventEdge). length (lines_taken_over g e)) o 0) edge-is ∙ length-append (flat_map (change_line g) (set_parameters b.parameters p.values)) (body_lines g b)

  pub added-parts : bytes_added g first ≡ bytes_set g first + length (body_lines g b)
  added-parts = added-is ∙ ap (λ n. n + length (body_lines g b)) (sym set-is)

  body-is : length (body_lines g b) ≡ length (flat_map (change_line g) b.changes) + length (flat_map (edge_line g) b.edges)
  body-is = length-append (flat_map (change_line g) b.changes) (flat_map (edge_line g) b.edges)

  all-added : added g first second p ≡ bytes_added g first
  all-added = let whole = added-is in let body = body-is in omega (arith, whole, body)

  pub gone-within-body : bytes_gone g first ≤ length (body_lines g (vertex_at g first))
  gone-within-body = let gone = gone-is in let within = edge_within g first second p in omega (arith, gone, within)

  module _ (below : first < length g.vertices) where
    there : slice_get g.vertices first ≡ Some (vertex_at g first)
    there = there-is g.vertices first no_vertex below

    pub shorter : length (canonical (pruned g first p.place)) + bytes_gone g first ≡ length (canonical g)
    shorter = ap (λ n. length (canonical (pruned g first p.place)) + n) gone-is ∙ rest_length g first second p (vertex_at g first) there

    pub grown : length (canonical (merged g first second)) + bytes_gone g first ≡ length (canonical g) + bytes_added g first
    grown =
        ap (λ n. length (canonical (merged g first second)) + n) gone-is
        ∙ merged_length g first second p (vertex_at g first) there
        ∙ ap (λ n. length (canonical g) + n) all-added

    pub body-grown : length (body_lines (merged g first second) (vertex_at (merged g first second) first)) + bytes_gone g first ≡ length (body_lines g (vertex_at g first)) + bytes_added g first
    body-grown =
        ap (λ n. length (body_lines (merged g first second) (vertex_at (merged g first second) first)) + n) gone-is
        ∙ merged_body g first second p below
        ∙ ap (λ n. length (body_lines g (vertex_at g first)) + n) all-added
