-- What a vertex touches, found part by part.
use Rattle.std.proofs.Common.{◌≡◌, ℕ, List, [], ◌∷◌, ◌++◌, map, refl, sym, ap, ap₂, ◌∙◌, append-nil, append_assoc}
use Rattle.std.specs.List.{flat_map}
use Rattle.model_core.specs.EventGraph.{EventVertex, EventEdge, StateChange}
use Rattle.model_core.specs.Rules.Uses.{change_streams, edge_streams, vertex_reads, vertex_writes}
use Rattle.model_core.specs.Conflicts.Conflict.{edge_cancelled}
use Rattle.conflict_report.specs.Inner.TouchedLists.{TouchedLists, after_change, after_changes, after_edge, after_edges, after_vertex}

abbrev lists : List ℕ → List ℕ → List ℕ → List ℕ → List ℕ → TouchedLists
lists reads writes streams names cancels = record { reads = reads; writes = writes; streams = streams; names = names; cancels = cancels }

same_lists : {r s w x d e n m c k : List ℕ} → r ≡ s → w ≡ x → d ≡ e → n ≡ m → c ≡ k → lists r w d n c ≡ lists s x e m k
same_lists reads writes streams names cancels = λ i. lists (reads i) (writes i) (streams i) (names i) (cancels i)

changes-added : (cs : List StateChange) (t : TouchedLists) → after_changes cs t ≡ record t { streams = t.streams ++ flat_map change_streams cs }
changes-added [] t = same_lists refl refl (sym (append-nil t.streams)) refl refl
changes-added (c ∷ cs) t = changes-added cs (after_change c t) ∙ same_lists refl refl (append_assoc t.streams (change_streams c) (flat_map change_streams cs)) refl refl

abbrev targets : List EventEdge → List ℕ
targets es = map (λ (e : EventEdge). e.target) es

edges-added : (es : List EventEdge) (t : TouchedLists) → after_edges es t ≡ lists t.reads t.writes (t.streams ++ flat_map edge_streams es) (t.names ++ targets es) (t.cancels ++ flat_map edge_cancelled es)
edges-added [] t = same_lists refl refl (sym (append-nil t.streams)) (sym (append-nil t.names)) (sym (append-nil t.cancels))
edges-added (e ∷ es) t =
    edges-added es (after_edge e t)
    ∙ same_lists refl refl (append_assoc t.streams (edge_streams e) (flat_map edge_streams es)) (append_assoc t.names (e.target ∷ []) (targets es)) (append_assoc t.cancels (edge_cancelled e) (flat_map edge_cancelled es))

-- all of a vertex
vertex-added : (place : ℕ) (v : EventVertex) (t : TouchedLists)
    → after_edges v.edges (after_changes v.changes (lists (t.reads ++ vertex_reads v) (t.writes ++ vertex_writes v) t.streams (t.names ++ place ∷ []) t.cancels)) ≡ after_vertex place v t
vertex-added place v t =
    let begun = lists (t.reads ++ vertex_reads v) (t.writes ++ vertex_writes v) t.streams (t.names ++ place ∷ []) t.cancels in
    ap (after_edges v.edges) (changes-added v.changes begun)
    ∙ edges-added v.edges (record begun { streams = t.streams ++ flat_map change_streams v.changes })
    ∙ same_lists refl refl (append_assoc t.streams (flat_map change_streams v.changes) (flat_map edge_streams v.edges)) (append_assoc t.names (place ∷ []) (targets v.edges)) refl

-- from what each part added
pub vertex-touched : (place : ℕ) (v : EventVertex) (old opened changed new : TouchedLists) (reads writes names : List ℕ) (cs : List StateChange) (es : List EventEdge)
    → opened ≡ old → reads ≡ opened.reads ++ vertex_reads v → writes ≡ opened.writes ++ vertex_writes v → names ≡ opened.names ++ place ∷ []
    → cs ≡ v.changes → changed ≡ after_changes cs (lists reads writes opened.streams names opened.cancels) → es ≡ v.edges → new ≡ after_edges es changed
    → new ≡ after_vertex place v old
vertex-touched place v old opened changed new reads writes names cs es is read written named their then leaving last =
    last
    ∙ ap₂ after_edges leaving (then ∙ ap₂ after_changes their (same_lists read written refl named refl))
    ∙ vertex-added place v opened ∙ ap (after_vertex place v) is
