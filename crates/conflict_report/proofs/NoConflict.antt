-- What is known of two vertices that aren't in conflict although they have a priority in common.
use Rattle.std.proofs.Common.{◌≡◌, ℕ, ◌==◌, Bool, true, false, cond, ◌&&◌, ◌||◌, List, [], ◌∷◌, ◌++◌, map, inl, inr, refl, sym, ap, subst, ◌∙◌}
use Rattle.std.specs.List.{AllByRecursion, flat_map}
use Rattle.model_core.specs.EventGraph.{EventGraph, EventVertex, EventEdge}
use Rattle.model_core.specs.Run.Step.{vertex_at}
use Rattle.model_core.specs.Run.Pending.{Entry}
use Rattle.model_core.specs.Rules.MarkedPlaces.{is_among}
use Rattle.model_core.specs.Rules.Merge.{is_cancelling}
use Rattle.model_core.specs.Rules.Uses.{vertex_reads, vertex_writes, vertex_streams}
use Rattle.model_core.specs.Conflicts.Priorities.{priorities_of}
use Rattle.model_core.specs.Conflicts.Orders.{HasOwnPriority}
use Rattle.model_core.specs.Conflicts.Conflict.{in_common, over_variables, over_streams, over_events, in_conflict, named_vertices, edge_cancelled, cancelled_vertices}
use Rattle.model_core.specs.Run.Changes.{ChangeState}
use Rattle.model_core.proofs.EachOne.{either_false, every-fails, every-map}
use Rattle.model_core.proofs.Among.{Among, of-among, each-among}
use Rattle.model_core.proofs.PlacesChanged.{apart-turned}
use Rattle.mark_laws.proofs.EntailedMarks.{among-place}
use Rattle.run_laws.proofs.Spared.SetPlaces.{Spares, ChangedWithin}
use Rattle.conflict_report.proofs.ListEdits.{ListEdit, AddsEvent, CutsNext, CutsEqual, CutsAll, deed_vertex, CutsOthers, Outcome}
use Rattle.conflict_report.proofs.WrittenEdges.{DeedOn}
use Rattle.conflict_report.proofs.Events.{VertexSpared, EventWritten}
use Rattle.conflict_report.proofs.EventsOfVertex.{Elsewhere}
use Rattle.conflict_report.proofs.NumbersInCommon.{none-shared, shared, in_common-turned}
use Rattle.conflict_report.proofs.EitherOrder.{DeedsAside, first_elsewhere, second_elsewhere, no_cuts}

-- what is set at places of the one spares those of the other
written-spares : {X : Type 0} (places others : List ℕ) (xs ys : List X) → in_common places others ≡ false → (w : ChangedWithin places xs ys) → AllByRecursion (Spares w.pairs) others
written-spares {X = X} places others xs ys none w =
    each-among (Spares w.pairs) others (λ y there. every-map (λ (u : ℕ × X). Among u.0 places) (λ (u : ℕ × X). (u.0 == y) ≡ false) (λ u among. apart-turned y u.0 (none-shared places others none u.0 y among there)) w.pairs w.among)

-- ---- no conflict

-- neither is in the other's way
pub record NoConflict (g : EventGraph) (a b : ℕ) : Type 0 where
  pub variables : over_variables (vertex_at g a) (vertex_at g b) ≡ false
  pub streams : over_streams (vertex_at g a) (vertex_at g b) ≡ false
  pub events : over_events g a b ≡ false

meeting : (m v s c : Bool) → m ≡ true → (m && (v || s || c)) ≡ false → (v ≡ false) × (s ≡ false) × (c ≡ false)
meeting true false false false is e = (refl, refl, refl)
meeting true true s c is e = cc
meeting true false true c is e = cc
meeting true false false true is e = cc
meeting false v s c is e = cc

-- two vertices of which events may have equal priority
pub not-in-conflict : (g : EventGraph) (a b : Entry) → a.priority ≡ b.priority → HasOwnPriority g a → HasOwnPriority g b → in_conflict g a.vertex b.vertex ≡ false → NoConflict g a.vertex b.vertex
not-in-conflict g a b same own_a own_b none =
    let in_a = among-place (priorities_of g a.vertex) a.priority own_a in
    let in_b = subst (λ p. Among p (priorities_of g b.vertex)) (sym same) (among-place (priorities_of g b.vertex) b.priority own_b) in
    let meets = shared (priorities_of g a.vertex) (priorities_of g b.vertex) a.priority in_a in_b in
    let (v, s, c) = meeting (in_common (priorities_of g a.vertex) (priorities_of g b.vertex)) (over_variables (vertex_at g a.vertex) (vertex_at g b.vertex)) (over_streams (vertex_at g a.vertex) (vertex_at g b.vertex)) (over_events g a.vertex b.vertex) meets none in
    record { variables = v; streams = s; events = c }

either-turned : (p q : Bool) → (p || q) ≡ false → (q || p) ≡ false
either-turned true q e = cc
either-turned false q e = ap (λ (c : Bool). c || false) e

pub no-conflict-turned : (g : EventGraph) (a b : ℕ) → NoConflict g a b → NoConflict g b a
no-conflict-turned g a b n =
    let v = vertex_at g a in
    let w = vertex_at g b in
    record {
      variables = either-turned (in_common (vertex_writes v) (vertex_reads w ++ vertex_writes w)) (in_common (vertex_writes w) (vertex_reads v ++ vertex_writes v)) n.variables;
      streams = in_common-turned (vertex_streams w) (vertex_streams v) ∙ n.streams;
      events = either-turned (in_common (cancelled_vertices v) (b ∷ named_vertices w)) (in_common (cancelled_vertices w) (a ∷ named_vertices v)) n.events;
    }

module _ (g : EventGraph) (a b : ℕ) (n : NoConflict g a b) where
  -- what an event of the first sets, the second doesn't use
  pub spared-by : (d : ChangeState) (o : Outcome) → (w : EventWritten (vertex_at g a) d o) → VertexSpared w.variables.pairs w.streams.pairs (vertex_at g b)
  spared-by d o w =
      let v = vertex_at g a in
      let u = vertex_at g b in
      record {
        variables = written-spares (vertex_writes v) (vertex_reads u ++ vertex_writes u) d.state o.drawn.state (either_false (in_common (vertex_writes v) (vertex_reads u ++ vertex_writes u)) (in_common (vertex_writes u) (vertex_reads v ++ vertex_writes v)) n.variables).0 w.variables;
        streams = written-spares (vertex_streams v) (vertex_streams u) d.taken o.drawn.taken n.streams w.streams;
      }

  -- no vertex whose events the first cancels is the second, or named by it
  cancels-none : in_common (cancelled_vertices (vertex_at g a)) (b ∷ named_vertices (vertex_at g b)) ≡ false
  cancels-none = (either_false (in_common (cancelled_vertices (vertex_at g a)) (b ∷ named_vertices (vertex_at g b))) (in_common (cancelled_vertices (vertex_at g b)) (a ∷ named_vertices (vertex_at g a))) n.events).0

  cut-elsewhere : (k : ℕ) → Among k (cancelled_vertices (vertex_at g a)) → (y : ℕ) → Among y (b ∷ named_vertices (vertex_at g b)) → (k == y) ≡ false
  cut-elsewhere k there y named_there = apart-turned y k (none-shared (cancelled_vertices (vertex_at g a)) (b ∷ named_vertices (vertex_at g b)) cancels-none k y there named_there)

  -- the deeds of the first cancel no event of the second
  cuts-others : (x : ListEdit) → DeedOn (named_vertices (vertex_at g a)) (cancelled_vertices (vertex_at g a)) x → CutsOthers b x
  cuts-others (AddsEvent e) on = tt
  cuts-others (CutsNext v) on = cut-elsewhere v on b (inl refl)
  cuts-others (CutsEqual v values) on = cut-elsewhere v on b (inl refl)
  cuts-others (CutsAll v) on = cut-elsewhere v on b (inl refl)

  pub deeds-cut-others : (deeds : List ListEdit) → AllByRecursion (DeedOn (named_vertices (vertex_at g a)) (cancelled_vertices (vertex_at g a))) deeds → AllByRecursion (CutsOthers b) deeds
  deeds-cut-others deeds on = every-map (DeedOn (named_vertices (vertex_at g a)) (cancelled_vertices (vertex_at g a))) (CutsOthers b) cuts-others deeds on

-- a vertex whose events are cancelled is named
cancelled-named : (es : List EventEdge) (k : ℕ) → Among k (flat_map edge_cancelled es) → Among k (map (λ (e : EventEdge). e.target) es)
cancelled-named [] k h = absurd h
cancelled-named (e ∷ es) k h = by (is_cancelling e.kind) (λ later. cancelled-named es k later) h where
  by : (c : Bool) → (Among k (flat_map edge_cancelled es) → Among k (map (λ (e : EventEdge). e.target) es)) → Among k (cond c (e.target ∷ []) [] ++ flat_map edge_cancelled es) → Among k (e.target ∷ map (λ (e : EventEdge). e.target) es)
  by true rest (inl is) = inl is
  by true rest (inr later) = inr (rest later)
  by false rest later = inr (rest later)

-- a deed is on events of a named vertex
deed-named : (v : EventVertex) (x : ListEdit) → DeedOn (named_vertices v) (cancelled_vertices v) x → Among (deed_vertex x) (named_vertices v)
deed-named v (AddsEvent e) on = on
deed-named v (CutsNext w) on = cancelled-named v.edges w on
deed-named v (CutsEqual w values) on = cancelled-named v.edges w on
deed-named v (CutsAll w) on = cancelled-named v.edges w on

-- a deed cancels no events of a vertex of which none are cancelled
cuts-no-others : (v : EventVertex) (k : ℕ) → is_among (cancelled_vertices v) k ≡ false → (x : ListEdit) → DeedOn (named_vertices v) (cancelled_vertices v) x → CutsOthers k x
cuts-no-others v k none (AddsEvent e) on = tt
cuts-no-others v k none (CutsNext w) on = of-among (λ (j : ℕ). (j == k) ≡ false) (cancelled_vertices v) w (every-fails (λ j. j == k) (cancelled_vertices v) none) on
cuts-no-others v k none (CutsEqual w values) on = of-among (λ (j : ℕ). (j == k) ≡ false) (cancelled_vertices v) w (every-fails (λ j. j == k) (cancelled_vertices v) none) on
cuts-no-others v k none (CutsAll w) on = of-among (λ (j : ℕ). (j == k) ≡ false) (cancelled_vertices v) w (every-fails (λ j. j == k) (cancelled_vertices v) none) on

module _ (g : EventGraph) where
  abbrev pub DeedsBy : ℕ → List ListEdit → Type 0
  DeedsBy vertex deeds = AllByRecursion (DeedOn (named_vertices (vertex_at g vertex)) (cancelled_vertices (vertex_at g vertex))) deeds

  -- where the first cancels events of a vertex, the second has no deeds on them
  elsewhere : (a b : ℕ) → NoConflict g a b → (k : ℕ) → is_among (cancelled_vertices (vertex_at g a)) k ≡ true → (deeds : List ListEdit) → DeedsBy b deeds → AllByRecursion (Elsewhere k) deeds
  elsewhere a b n k found deeds on =
      every-map (DeedOn (named_vertices (vertex_at g b)) (cancelled_vertices (vertex_at g b))) (Elsewhere k) (λ x on. apart-turned k (deed_vertex x) (cut-elsewhere g a b n k (among-place (cancelled_vertices (vertex_at g a)) k found) (deed_vertex x) (inr (deed-named (vertex_at g b) x on)))) deeds on

  no_cuts-on : (vertex k : ℕ) → is_among (cancelled_vertices (vertex_at g vertex)) k ≡ false → (deeds : List ListEdit) → DeedsBy vertex deeds → AllByRecursion (CutsOthers k) deeds
  no_cuts-on vertex k none deeds on = every-map (DeedOn (named_vertices (vertex_at g vertex)) (cancelled_vertices (vertex_at g vertex))) (CutsOthers k) (cuts-no-others (vertex_at g vertex) k none) deeds on

  -- the deeds of both are aside of each other, for each entry
  pub deeds-aside : (a b : ℕ) → NoConflict g a b → (ds es : List ListEdit) → DeedsBy a ds → DeedsBy b es → (x : Entry) → DeedsAside x ds es
  deeds-aside a b n ds es on_a on_b x = by (is_among (cancelled_vertices (vertex_at g a)) x.vertex) refl (is_among (cancelled_vertices (vertex_at g b)) x.vertex) refl where
    by : (c : Bool) → is_among (cancelled_vertices (vertex_at g a)) x.vertex ≡ c → (d : Bool) → is_among (cancelled_vertices (vertex_at g b)) x.vertex ≡ d → DeedsAside x ds es
    by true is d other = second_elsewhere (elsewhere a b n x.vertex is es on_b)
    by false is true other = first_elsewhere (elsewhere b a (no-conflict-turned g a b n) x.vertex other ds on_a)
    by false is false other = no_cuts (no_cuts-on a x.vertex is ds on_a) (no_cuts-on b x.vertex other es on_b)
