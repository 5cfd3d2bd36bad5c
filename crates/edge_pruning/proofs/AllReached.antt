-- Where the vertices that can't be reached are gone, all others can be reached.
use Rattle.std.proofs.Common.{◌≡◌, ℕ, ◌<◌, Bool, List, [], length, map, sym, ap, subst, arith, ◌∙◌}
use Rattle.std.proofs.lemmas.List.{length-map}
use Rattle.model_core.specs.EventGraph.{EventGraph, EventVertex, EventEdge, WatchedVertex}
use Rattle.model_core.specs.Run.Step.{no_vertex, vertex_at}
use Rattle.model_core.specs.Rules.MarkedPlaces.{rank, marked_of}
use Rattle.model_core.specs.Rules.Reached.{reached_marks, unreached}
use Rattle.model_core.specs.Rules.LeastRelations.{Reachable, reach_first, reach_watched, reach_over}
use Rattle.model_core.specs.Rules.Drop.{edge_renumbered, vertex_renumbered, watched_renumbered, only_marked}
use Rattle.mark_laws.proofs.Marks.{Marked, marked-placed, old_place}
use Rattle.model_core.proofs.Among.{Among, among-contained, contained-among, among-map}
use Rattle.mark_laws.proofs.ReachedLong.{reached_marks-long}
use Rattle.edge_pruning.proofs.ReachedMarks.{has_edges, reachable-marked, reached_marks-hold, reached_marks-reachable}
use Rattle.mark_laws.proofs.Ranks.{rank-none}
use Rattle.mark_laws.proofs.UnmarkedPlaces.{none_unmarked}
use Rattle.model_core.proofs.Images.{at-map}

module _ (g : EventGraph) where
  abbrev marks : List Bool
  marks = reached_marks g

  abbrev h : EventGraph
  h = only_marked g marks

  edges_there : (k : ℕ) → Marked marks k → (vertex_at h (rank marks k)).edges ≡ map (edge_renumbered (rank marks)) (vertex_at g k).edges
  edges_there k marked =
      ap (λ (v : EventVertex). v.edges) (at-map (vertex_renumbered (rank marks)) (marked_of marks g.vertices) (rank marks k) no_vertex ∙ ap (vertex_renumbered (rank marks)) (marked-placed marks g.vertices k no_vertex marked))

  -- what could be reached can be reached at its new place
  still_reachable : {k : ℕ} → Reachable g k → Reachable h (rank marks k)
  still_reachable reach_first = subst (Reachable h) (sym (rank-none marks)) reach_first
  still_reachable (reach_watched vertex contains) =
      reach_watched (rank marks vertex) (contained-among h.watch (WatchedVertex (rank marks vertex)) (among-map (watched_renumbered (rank marks)) g.watch (WatchedVertex vertex) (among-contained g.watch (WatchedVertex vertex) contains)))
  still_reachable (reach_over vertex e before contains) =
      let among = among-contained (vertex_at g vertex).edges e contains in
      let marked : Marked marks vertex = reachable-marked g marks (reached_marks-hold g) before (has_edges g.vertices vertex e among) in
      reach_over (rank marks vertex) (edge_renumbered (rank marks) e) (still_reachable before)
      (contained-among (vertex_at h (rank marks vertex)).edges (edge_renumbered (rank marks) e)
      (subst (λ (es : List EventEdge). Among (edge_renumbered (rank marks) e) es) (sym (edges_there vertex marked)) (among-map (edge_renumbered (rank marks)) (vertex_at g vertex).edges e among)))

  pub all_reached : unreached (only_marked g (reached_marks g)) ≡ []
  all_reached = none_unmarked (reached_marks h) (λ i below.
      let within : i < length h.vertices = omega (arith, below, reached_marks-long h) in
      let (k, marked, e, old) = old_place marks g.vertices i (omega (arith, within, length-map (marked_of marks g.vertices) (vertex_renumbered (rank marks)))) in
      subst (λ i. Marked (reached_marks h) i) e (reachable-marked h (reached_marks h) (reached_marks-hold h) (still_reachable (reached_marks-reachable g k marked)) (subst (λ i. i < length h.vertices) (sym e) within)))
