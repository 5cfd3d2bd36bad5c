-- The graph of the vertices that can be reached has the runs of the whole one, where each edge leads to a vertex.
use Rattle.std.proofs.Common.{ℕ, ◌<◌, Bool, List, length, map, ap, ◌∙◌}
use Rattle.std.specs.List.{AllByRecursion}
use Rattle.model_core.specs.EventGraph.{EventGraph, EventEdge, Watched, WatchedVariable, WatchedVertex}
use Rattle.model_core.specs.Run.Step.{no_vertex, vertex_at}
use Rattle.model_core.specs.Run.Same.{Same}
use Rattle.model_core.specs.Rules.MarkedPlaces.{rank, marked_of}
use Rattle.model_core.specs.Rules.Reached.{reached_marks}
use Rattle.model_core.specs.Rules.Drop.{vertex_renumbered, only_marked}
use Rattle.mark_laws.proofs.Marks.{Marked, rank-apart, marked-placed}
use Rattle.model_core.proofs.Among.{Among, each-among, of-among}
use Rattle.mark_laws.proofs.Ranks.{rank-none}
use Rattle.edge_pruning.proofs.ReachedMarks.{first-begins, watched-begins, HoldReached, reached_marks-hold}
use Rattle.model_core.proofs.Images.{at-map}
use Rattle.run_laws.proofs.MappedVertices.{WatchedAreApart}
use Rattle.edge_pruning.proofs.Renumbered.{renumbered-Same}

-- there is a first vertex, and edges and the watch list name vertices
pub record NamesVertices (g : EventGraph) : Type 0 where
  pub some : 0 < length g.vertices
  pub edges : (k : ℕ) → AllByRecursion (λ (e : EventEdge). e.target < length g.vertices) (vertex_at g k).edges
  pub watch : (k : ℕ) → Among (WatchedVertex k) g.watch → k < length g.vertices

watched-live : (g : EventGraph) (marks : List Bool) → ((k : ℕ) → Among (WatchedVertex k) g.watch → Marked marks k) → AllByRecursion (WatchedAreApart (Marked marks)) g.watch
watched-live g marks live = each-among (WatchedAreApart (Marked marks)) g.watch one where
  one : (w : Watched) → Among w g.watch → WatchedAreApart (Marked marks) w
  one (WatchedVariable v) h = tt
  one (WatchedVertex v) h = live v h

pub reached_same : (g : EventGraph) → NamesVertices g → Same g (only_marked g (reached_marks g))
reached_same g names =
    let marks = reached_marks g in
    let hold : HoldReached g marks = reached_marks-hold g in
    renumbered-Same g (rank marks) (map (vertex_renumbered (rank marks)) (marked_of marks g.vertices)) (Marked marks) (record {
      apart = rank-apart marks;
      placed = λ k live. at-map (vertex_renumbered (rank marks)) (marked_of marks g.vertices) (rank marks k) no_vertex ∙ ap (vertex_renumbered (rank marks)) (marked-placed marks g.vertices k no_vertex live);
      closed = λ k live. each-among (λ (e : EventEdge). Marked marks e.target) (vertex_at g k).edges (λ e among. hold.leads k live e among (of-among (λ (e : EventEdge). e.target < length g.vertices) (vertex_at g k).edges e (names.edges k) among));
      first = rank-none marks;
      first_live = hold.begins 0 (first-begins g) names.some;
      watched = watched-live g marks (λ k among. hold.begins k (watched-begins g k among) (names.watch k among));
    })
