-- Two vertices that do the same, of which no edge cancels events and neither is watched, may be fused: the runs stay the same.
use Rattle.std.proofs.Common.{◌≡◌, ℕ, Bool, true, false, cond, ◌&&◌, ◌==◌, map, refl, sym, ◌∙◌, ap, subst}
use Rattle.std.specs.List.{AllByRecursion, list_any, remove}
use Rattle.std.proofs.lemmas.Bool.{eqb-true}
use Rattle.sig_base.proofs.Lists.{slice_index_or-all}
use Rattle.model_core.specs.EventGraph.{EventGraph, EventVertex, EventEdge, EdgeKind, Schedule, Urgent, CancelNext, CancelEqual, CancelAll, Watched, WatchedVariable, WatchedVertex}
use Rattle.model_core.specs.Run.Step.{no_vertex, vertex_at}
use Rattle.model_core.specs.Run.History.{watches}
use Rattle.model_core.specs.Run.Same.{Same}
use Rattle.model_core.specs.Rules.Drop.{edge_renumbered, vertex_renumbered}
use Rattle.model_core.specs.Rules.Merge.{is_cancelling, cancels}
use Rattle.model_core.specs.Rules.Fuse.{standing_for, fused_place, fused}
use Rattle.model_core.proofs.EachOne.{every-fails, every-both}
use Rattle.model_core.proofs.Images.{at-map}
use Rattle.model_core.proofs.FusedPlaces.{Other, standing-itself, fused-at, fused-first, fused-apart, same-leading}
use Rattle.twin_rules.proofs.AlikeVertices.{AreAlike}
use Rattle.run_laws.proofs.MappedVertices.{BehavesAs, LeadsToMapped, WatchedAreApart, mapped-Same}

module _ (g : EventGraph) (keep gone : ℕ) (are : AreAlike g keep gone) where
  abbrev h : EventGraph
  h = fused g keep gone

  abbrev f : ℕ → ℕ
  f = fused_place keep gone

  -- each vertex of the result is that of its place, or the one that is kept in place of the one that is gone
  placed : (k : ℕ) → vertex_at h (f k) ≡ vertex_renumbered f (vertex_at g (standing_for keep gone k))
  placed k = at-map (vertex_renumbered f) (remove g.vertices gone) (f k) no_vertex ∙ ap (vertex_renumbered f) (fused-at keep gone are.first g.vertices k no_vertex)

  -- which does the same
  does : (k : ℕ) → BehavesAs f (vertex_at g k) (vertex_at h (f k))
  does k = subst (BehavesAs f (vertex_at g k)) (sym (placed k)) (by (k == gone) refl) where
    by : (b : Bool) → (k == gone) ≡ b → BehavesAs f (vertex_at g k) (vertex_renumbered f (vertex_at g (cond b keep k)))
    by true is =
        let there : vertex_at g k ≡ vertex_at g gone = ap (vertex_at g) (eqb-true k gone is) in
        record {
          parameters = ap (λ (v : EventVertex). v.parameters) there ∙ sym are.parameters;
          changes = ap (λ (v : EventVertex). v.changes) there ∙ sym are.changes;
          edges = ap (λ (v : EventVertex). map (edge_renumbered f) v.edges) there ∙ sym (same-leading keep gone are.first (vertex_at g keep).edges (vertex_at g gone).edges are.edges);
        }
    by false is = record { parameters = refl; changes = refl; edges = refl }

  abbrev IsOther : ℕ → Type 0
  IsOther t = Other keep gone are.first t

  abbrev May : EventEdge → Type 0
  May e = LeadsToMapped (λ k. Unit {0}) IsOther e.kind e.target

  may-lead : (kind : EdgeKind) (t : ℕ) → (is_cancelling kind && (t == keep)) ≡ false → (is_cancelling kind && (t == gone)) ≡ false → LeadsToMapped (λ k. Unit {0}) IsOther kind t
  may-lead (Schedule delay priority) t a b = tt
  may-lead Urgent t a b = tt
  may-lead CancelNext t a b = record { not_keep = a; not_gone = b }
  may-lead CancelEqual t a b = record { not_keep = a; not_gone = b }
  may-lead CancelAll t a b = record { not_keep = a; not_gone = b }

  closed : (k : ℕ) → AllByRecursion May (vertex_at g k).edges
  closed k =
      slice_index_or-all (λ (v : EventVertex). AllByRecursion May v.edges) g.vertices no_vertex k
      (every-both (λ (v : EventVertex). list_any (cancels keep) v.edges ≡ false) (λ (v : EventVertex). list_any (cancels gone) v.edges ≡ false) (λ (v : EventVertex). AllByRecursion May v.edges) (λ v a b.
      every-both (λ (e : EventEdge). cancels keep e ≡ false) (λ (e : EventEdge). cancels gone e ≡ false) May (λ e. may-lead e.kind e.target) v.edges (every-fails (cancels keep) v.edges a) (every-fails (cancels gone) v.edges b))
      g.vertices (every-fails (λ (v : EventVertex). list_any (cancels keep) v.edges) g.vertices are.keep_uncancelled) (every-fails (λ (v : EventVertex). list_any (cancels gone) v.edges) g.vertices are.gone_uncancelled))
      tt

  pub watched-other : AllByRecursion (WatchedAreApart IsOther) g.watch
  watched-other =
      every-both (λ w. watches keep w ≡ false) (λ w. watches gone w ≡ false) (WatchedAreApart IsOther) one g.watch (every-fails (watches keep) g.watch are.keep_unwatched) (every-fails (watches gone) g.watch are.gone_unwatched) where
        one : (w : Watched) → watches keep w ≡ false → watches gone w ≡ false → WatchedAreApart IsOther w
        one (WatchedVariable v) a b = tt
        one (WatchedVertex v) a b = record { not_keep = a; not_gone = b }

  pub fused-Same : Same g h
  fused-Same = mapped-Same g f (map (vertex_renumbered f) (remove g.vertices gone)) (λ k. Unit {0}) IsOther (record {
    apart = λ t other k live. fused-apart keep gone are.first t other k;
    does = λ k live. does k;
    names = λ k other. sym (ap (λ (v : EventVertex). v.name) (placed k ∙ ap (λ k. vertex_renumbered f (vertex_at g k)) (standing-itself keep gone are.first k other.not_gone)));
    closed = λ k live. closed k;
    first = fused-first keep gone are.first;
    first_live = tt;
    watched = watched-other;
  })
