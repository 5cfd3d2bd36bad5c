-- Vertices may be renumbered, and those may go that no live vertex leads to: the runs stay the same.
use Rattle.std.proofs.Common.{◌≡◌, ℕ, ◌==◌, List, slice_index_or, sym, ap}
use Rattle.std.specs.List.{AllByRecursion}
use Rattle.model_core.specs.EventGraph.{EventGraph, EventVertex, EventEdge, EdgeKind, Schedule, Urgent, CancelNext, CancelEqual, CancelAll}
use Rattle.model_core.specs.Run.Step.{no_vertex, vertex_at}
use Rattle.model_core.specs.Run.Same.{Same}
use Rattle.model_core.specs.Rules.Drop.{vertex_renumbered}
use Rattle.model_core.proofs.EachOne.{every-map}
use Rattle.run_laws.proofs.MappedVertices.{with_mapped, BehavesAs, WatchedAreApart, LeadsToMapped, mapped-Same}

-- f gives live vertices different numbers, the vertices hold each live one at its new place, and live ones lead to such alone
pub record Renumbering (g : EventGraph) (f : ℕ → ℕ) (vertices : List EventVertex) (Live : ℕ → Type 0) : Type 0 where
  pub apart : (a b : ℕ) → Live a → Live b → (f a == f b) ≡ (a == b)
  pub placed : (k : ℕ) → Live k → slice_index_or vertices (f k) no_vertex ≡ vertex_renumbered f (vertex_at g k)
  pub closed : (k : ℕ) → Live k → AllByRecursion (λ (e : EventEdge). Live e.target) (vertex_at g k).edges
  pub first : f 0 ≡ 0
  pub first_live : Live 0
  pub watched : AllByRecursion (WatchedAreApart Live) g.watch

leads_live : (Live : ℕ → Type 0) (kind : EdgeKind) (t : ℕ) → Live t → LeadsToMapped Live Live kind t
leads_live Live (Schedule delay priority) t live = live
leads_live Live Urgent t live = live
leads_live Live CancelNext t live = live
leads_live Live CancelEqual t live = live
leads_live Live CancelAll t live = live

placed_does : (f : ℕ → ℕ) (v w : EventVertex) → w ≡ vertex_renumbered f v → BehavesAs f v w
placed_does f v w is = record {
  parameters = sym (ap (λ (v : EventVertex). v.parameters) is);
  changes = sym (ap (λ (v : EventVertex). v.changes) is);
  edges = sym (ap (λ (v : EventVertex). v.edges) is);
}

pub renumbered-Same : (g : EventGraph) (f : ℕ → ℕ) (vertices : List EventVertex) (Live : ℕ → Type 0) → Renumbering g f vertices Live → Same g (with_mapped g f vertices)
renumbered-Same g f vertices Live ok = mapped-Same g f vertices Live Live (record {
  apart = λ t is_target k live. ok.apart k t live is_target;
  does = λ k live. placed_does f (vertex_at g k) (slice_index_or vertices (f k) no_vertex) (ok.placed k live);
  names = λ k live. sym (ap (λ (v : EventVertex). v.name) (ok.placed k live));
  closed = λ k live. every-map (λ (e : EventEdge). Live e.target) (λ (e : EventEdge). LeadsToMapped Live Live e.kind e.target) (λ e there. leads_live Live e.kind e.target there) (vertex_at g k).edges (ok.closed k live);
  first = ok.first;
  first_live = ok.first_live;
  watched = ok.watched;
})
