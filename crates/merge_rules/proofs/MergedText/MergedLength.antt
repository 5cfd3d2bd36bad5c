-- How long the canonical text of the result of a merge is, and the lines of what its first vertex does.
use Rattle.std.proofs.Common.{◌≡◌, ℕ, ◌+◌, ◌<◌, ◌≤◌, ◌∷◌, ◌++◌, length, slice_get, Some, refl, ◌∙◌, ap, subst, arith}
use Rattle.model_core.specs.EventGraph.{EventGraph, EventVertex, EventEdge}
use Rattle.model_core.specs.Run.Step.{vertex_at, no_vertex}
use Rattle.model_core.specs.Text.Canonical.{change_line, edge_line, vertex_lines, canonical}
use Rattle.model_core.specs.Rules.Merge.{set_parameters, merged_with, merged}
use Rattle.model_core.specs.Rules.UrgentEdges.{plain_urgent}
use Rattle.model_core.specs.Rules.Prune.{without_edge, pruned}
use Rattle.vertex_laws.specs.BodyLines.{body_lines}
use Rattle.vertex_laws.proofs.ReadElement.{read_at}
use Rattle.vertex_laws.proofs.NeededVersion.{needed-pruned}
use Rattle.vertex_laws.proofs.ChangedLines.{total, total_joined, total_more, lines_length, body_length, body_there, changed_length}
use Rattle.merge_rules.proofs.OneStepForTwo.EdgesAside.{urgent_edge}
use Rattle.merge_rules.proofs.OneStepForTwo.TwoInOne.{joined_vertex}
use Rattle.merge_rules.proofs.SingleUrgentModels.PlainEdges.{PlainEdge, plain_undrawn}
use Rattle.merge_rules.proofs.OneStepForTwo.MergeResult.{joined_is}
use Rattle.vertex_laws.proofs.MergedNames.{name_stays}
use Rattle.merge_rules.proofs.MergedText.VersionMerged.{needed-merged}

module _ (g : EventGraph) (first second : ℕ) (p : PlainEdge (vertex_at g first) second) where
  abbrev a : EventVertex
  a = vertex_at g first

  abbrev b : EventVertex
  b = vertex_at g second

  abbrev result : EventGraph
  result = merged g first second

  abbrev at_once : EventEdge
  at_once = urgent_edge second p.values

  abbrev joined : EventVertex
  joined = joined_vertex a (p.before ++ p.after) p.values b

  -- what the second event adds
  abbrev pub added : ℕ
  added = total (change_line g) (set_parameters b.parameters p.values) + total (change_line g) b.changes + total (edge_line g) b.edges

  edges_length : total (edge_line g) a.edges ≡ total (edge_line g) p.before + (length (edge_line g at_once) + total (edge_line g) p.after)
  edges_length = ap (total (edge_line g)) p.whole ∙ (total_joined (edge_line g) p.before (at_once ∷ p.after) ∙ ap (λ n. total (edge_line g) p.before + n) (total_more (edge_line g) at_once p.after))

  joined_body : length (body_lines g joined) + length (edge_line g at_once) ≡ length (body_lines g a) + added
  joined_body =
      let whole = body_length g joined in
      let old = body_length g a in
      let changes = total_joined (change_line g) a.changes (set_parameters b.parameters p.values ++ b.changes) in
      let more = total_joined (change_line g) (set_parameters b.parameters p.values) b.changes in
      let edges = total_joined (edge_line g) (p.before ++ p.after) b.edges in
      let rest = total_joined (edge_line g) p.before p.after in
      omega (arith, whole, old, changes, more, edges, rest, edges_length)

  joined_length : length (vertex_lines g joined) + length (edge_line g at_once) ≡ length (vertex_lines g a) + added
  joined_length =
      let whole = lines_length g joined in
      let old = lines_length g a in
      let body = body_length g joined in
      let old_body = body_length g a in
      omega (arith, whole, old, body, old_body, joined_body)

  -- the lines of what the first vertex does are longer by what is added, and shorter by the plain urgent edge, which was one
  pub merged_body : first < length g.vertices → length (body_lines result (vertex_at result first)) + length (edge_line g at_once) ≡ length (body_lines g a) + added
  merged_body below =
      let there = ap length (body_there g (merged_with b) (name_stays b) first below) in
      let here = ap (λ v. length (body_lines g v)) (joined_is a b second p) in
      omega (arith, there, here, joined_body)

  pub edge_within : length (edge_line g at_once) ≤ length (body_lines g a)
  edge_within = let whole = body_length g a in omega (arith, whole, edges_length)

  without_length : length (vertex_lines g (without_edge p.place a)) + length (edge_line g at_once) ≡ length (vertex_lines g a)
  without_length =
      let left = lines_length g (without_edge p.place a) in
      let old = lines_length g a in
      let edges = ap (total (edge_line g)) p.rest in
      let parts = total_joined (edge_line g) p.before p.after in
      omega (arith, left, old, edges, parts, edges_length)

  -- the text is shorter by the plain urgent edge where that goes
  pub rest_length : (v : EventVertex) → slice_get g.vertices first ≡ Some v → length (canonical (pruned g first p.place)) + length (edge_line g at_once) ≡ length (canonical g)
  rest_length v there =
      let changed = changed_length g (without_edge p.place) (λ x. refl) first (needed-pruned g first p.place (λ w at. plain_undrawn w p.place (subst (λ (w : EventVertex). plain_urgent w ≡ Some p.place) (read_at g.vertices first no_vertex w at) p.is))) v there in
      omega (arith, changed, without_length)

  -- the text is longer by what is added, and shorter by the plain urgent edge
  pub merged_length : (v : EventVertex) → slice_get g.vertices first ≡ Some v → length (canonical result) + length (edge_line g at_once) ≡ length (canonical g) + added
  merged_length v there =
      let changed = changed_length g (merged_with b) (name_stays b) first (needed-merged g first second) v there in
      let here = ap (λ v. length (vertex_lines g v)) (joined_is a b second p) in
      omega (arith, changed, here, joined_length)
