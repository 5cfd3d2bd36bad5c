-- Merging an event with the one that it schedules at once keeps the meaning.
use Rattle.std.proofs.Common.{◌≡◌, ◌⊎◌, inl, inr, ℕ, zero, suc, ◌^◌, ◌≤◌, ℤ, ◌==◌, Bool, true, false, List, [], ◌∷◌, ◌++◌, map, slice_get, slice_index_or, Some, None, option_map, Ok, Err, refl, sym, ◌∙◌, ap, ap₂, subst}
use Rattle.std.specs.Prelude.{option_to_list, position}
use Rattle.std.specs.List.{AllByRecursion}
use Rattle.std.proofs.lemmas.Bool.{eqb-true}
use Rattle.sig_base.specs.declared.fault.FaultKind.{FaultKind}
use Rattle.model_core.specs.EventGraph.{EventGraph, EventVertex, EventEdge, Expression, Watched, WatchedVariable, WatchedVertex}
use Rattle.model_core.specs.Run.State.{State, initial_state, variable_at}
use Rattle.model_core.specs.Run.Value.{each, in_turn, value_of}
use Rattle.model_core.specs.Run.Changes.{ChangeState, make_change}
use Rattle.model_core.specs.Run.Pending.{EntryAndRest, next_entry}
use Rattle.model_core.specs.Run.Edges.{treat_edge}
use Rattle.model_core.specs.Run.Step.{Configuration, no_vertex, vertex_at, receive, occur}
use Rattle.model_core.specs.Run.Machine.{On}
use Rattle.model_core.specs.Run.History.{watches, completed, watched_values}
use Rattle.model_core.specs.Run.Same.{Same, watched_name_of, parameter, VertexNamed}
use Rattle.model_core.specs.Rules.PlacedEdges.{with_place}
use Rattle.model_core.specs.Rules.Uses.{edge_reads}
use Rattle.model_core.proofs.Results.{bind_ok}
use Rattle.run_laws.proofs.Keeping.{Kept, received, changed, occur-keeps}
use Rattle.run_laws.proofs.OnTime.{NoneEarlier, starts-on_time, others_later, occur-on_time}
use Rattle.run_laws.proofs.EdgesAlike.{with_vertices}
use Rattle.model_core.proofs.EachOne.{every-map, every-both}
use Rattle.model_core.proofs.PlacesChanged.{placed-elsewhere}
use Rattle.run_laws.proofs.Spared.HeldValues.{Holds}
use Rattle.run_laws.proofs.Spared.HeldEdges.{treat_edge-held}
use Rattle.merge_rules.proofs.OneStepForTwo.UndrawnEdges.{Undrawn}
use Rattle.merge_rules.proofs.SingleUrgentModels.InsertedEntry.{DueBefore}
use Rattle.merge_rules.proofs.OneStepForTwo.EdgesAside.{Aside, Calm, urgent_entry, urgent_edge}
use Rattle.merge_rules.proofs.OneStepForTwo.TwoInOne.{Split, joined_vertex, merged-splits, CalmAfterChanges}
use Rattle.merge_rules.proofs.OneStepForTwo.MergedRuns.{Merging, merged-looks}
use Rattle.merge_rules.proofs.SingleUrgentModels.UrgentEvents.{NotUrgent, OneUrgent, starts-one_urgent, due-first, others-not_urgent, Exclusive, PriorityOk, occur-one_urgent}
use Rattle.merge_rules.proofs.OneStepForTwo.Unwritten.{UnwrittenBy, unwritten-holds}

-- the graph with the merged vertex in place of the first
abbrev pub joined_at : EventGraph → ℕ → ℕ → List EventEdge → List Expression → EventGraph
joined_at g first second others rights = with_vertices g (with_place (λ v. joined_vertex v others rights (vertex_at g second)) first g.vertices)

abbrev pub VariableUnwritten : EventVertex → Watched → Type 0
VariableUnwritten b (WatchedVariable v) = UnwrittenBy b v
VariableUnwritten b (WatchedVertex v) = Unit {0}

-- the second event shows nothing of its own, and where the first one is watched it doesn't fault or change what is watched
abbrev pub Discreet : EventGraph → (State → Type 0) → ℕ → ℕ → List Expression → Type 0
Discreet g Q first second rights =
    (position (watches first) g.watch ≡ None)
    ⊎ (AllByRecursion (VariableUnwritten (vertex_at g second)) g.watch × ((seed : ℕ) (n : EntryAndRest) (s : State) (taken : List ℕ) (k : FaultKind) → Q s → n.entry.time ≤ 2 ^ 48 → each (value_of g s n.entry.time) rights ≡ Ok n.entry.values → occur g seed (vertex_at g second) n s taken ≡ Err k → ⊥))

-- the conditions, as facts of the states of which Q holds
pub record MergeFacts (g : EventGraph) (Q : State → Type 0) (first second : ℕ) (before after : List EventEdge) (rights : List Expression) : Type 0 where
  pub kept : Kept g Q
  pub there : (v : EventVertex) × (slice_get g.vertices first ≡ Some v)
  pub edges : (vertex_at g first).edges ≡ before ++ urgent_edge second rights ∷ after
  pub none : (vertex_at g second).parameters ≡ [] → rights ≡ []
  pub aside_before : AllByRecursion (λ (e : EventEdge). Aside second e.target e.kind) before
  pub aside_after : AllByRecursion (λ (e : EventEdge). Aside second e.target e.kind) after
  pub calm : (seed : ℕ) (s : State) → Q s → (clk : ℕ) → clk ≤ 2 ^ 48 → AllByRecursion (Calm g seed s clk) before × AllByRecursion (Calm g seed s clk) after
  pub undrawn : AllByRecursion Undrawn (before ++ after)
  pub unread : AllByRecursion (λ e. AllByRecursion (UnwrittenBy (vertex_at g second)) (edge_reads e)) (before ++ after)
  pub priorities : (k : ℕ) → AllByRecursion (λ (e : EventEdge). PriorityOk e.kind) (vertex_at g k).edges
  pub exclusive : (k : ℕ) (s : State) → Q s → (clk : ℕ) → clk ≤ 2 ^ 48 → Exclusive g s clk (vertex_at g k).edges
  pub unwatched : position (watches second) g.watch ≡ None
  pub discreet : Discreet g Q first second rights

pub place-here : {A : Type 0} (f : A → A) (i : ℕ) (xs : List A) (d x : A) → slice_get xs i ≡ Some x → slice_index_or (with_place f i xs) i d ≡ f (slice_index_or xs i d)
place-here f i [] d x there = cc
place-here f zero (y ∷ xs) d x there = refl
place-here f (suc i) (y ∷ xs) d x there = place-here f i xs d x there

-- what a step that goes on has made
record Made (g : EventGraph) (seed : ℕ) (v : EventVertex) (n : EntryAndRest) (s : State) (taken : List ℕ) (c : Configuration) : Type 0 where
  at_receive : State
  at_changes : ChangeState
  is_received : receive g v.parameters n.entry.values s ≡ Ok at_receive
  is_changed : in_turn (make_change g seed n.entry.time) v.changes (record { state = at_receive; taken = taken }) ≡ Ok at_changes
  state_is : at_changes.state ≡ c.state
  clock_is : n.entry.time ≡ c.clock

made : (g : EventGraph) (seed : ℕ) (v : EventVertex) (n : EntryAndRest) (s : State) (taken : List ℕ) (c : Configuration) → occur g seed v n s taken ≡ Ok c → Made g seed v n s taken c
made g seed v n s taken c goes_on =
    let (t, at_receive, after_receive) = bind_ok (receive g v.parameters n.entry.values s) _ c goes_on in
    let (d, at_changes, after_changes) = bind_ok (in_turn (make_change g seed n.entry.time) v.changes (record { state = t; taken = taken })) _ c after_receive in
    let (p, at_edges, at_end) = bind_ok (in_turn (treat_edge g seed d.state n.entry.time) v.edges (record { pending = n.others; taken = d.taken })) _ c after_changes in
    let same : record { clock = n.entry.time; state = d.state; taken = p.taken; pending = p.pending } ≡ c = cc in
    record { at_receive = t; at_changes = d; is_received = at_receive; is_changed = at_changes; state_is = ap (λ (c : Configuration). c.state) same; clock_is = ap (λ (c : Configuration). c.clock) same }

values-same : (b : EventVertex) (s t : State) → ((v : ℕ) → UnwrittenBy b v → Holds s t v) → (watch : List Watched) → AllByRecursion (VariableUnwritten b) watch → watched_values watch t ≡ watched_values watch s
values-same b s t holds [] all = refl
values-same b s t holds (WatchedVariable v ∷ watch) (now, all) = ap₂ (λ (c : List ℤ) (cs : List (List ℤ)). c ∷ cs) (holds v now) (values-same b s t holds watch all)
values-same b s t holds (WatchedVertex v ∷ watch) (now, all) = values-same b s t holds watch all

module _ (g : EventGraph) (Q : State → Type 0) (first second : ℕ) (before after : List EventEdge) (rights : List Expression) (ok : MergeFacts g Q first second before after rights) where
  abbrev b : EventVertex
  b = vertex_at g second

  abbrev vertices : List EventVertex
  vertices = with_place (λ v. joined_vertex v (before ++ after) rights (vertex_at g second)) first g.vertices

  abbrev Inv : Configuration → Type 0
  Inv c = NoneEarlier c.clock c.pending × OneUrgent c.clock c.pending × Q c.state

  calm_then : (seed : ℕ) (s : State) → Q s → (n : EntryAndRest) → n.entry.time ≤ 2 ^ 48 → (taken : List ℕ) → CalmAfterChanges g seed second (vertex_at g first) before after rights n.entry.time n.entry.values s taken
  calm_then seed s q n due taken t d got made =
      let qd : Q d.state = changed g Q ok.kept seed n.entry.time (vertex_at g first).changes (record { state = t; taken = taken }) d (received g Q ok.kept (vertex_at g first).parameters n.entry.values s t q got) made in
      let (calm_before, calm_after) = ok.calm seed d.state qd n.entry.time due in
      (calm_before, calm_after, λ values t2 d2 got2 made2. every-map (λ e. AllByRecursion (UnwrittenBy b) (edge_reads e)) _ (λ e reads. treat_edge-held g seed d.state d2.state n.entry.time e (every-map (UnwrittenBy b) (Holds d.state d2.state) (λ v unwritten. unwritten-holds g seed n.entry.time b v unwritten values d.state t2 d.taken d2 got2 made2) (edge_reads e) reads)) (before ++ after) ok.unread)

  splits : (seed : ℕ) (c : Configuration) (n : EntryAndRest) → Inv c → next_entry c.pending ≡ Some n → n.entry.time ≤ 2 ^ 48 → (n.entry.vertex == first) ≡ true → Split g seed second rights n.entry.time (occur g seed (vertex_at g n.entry.vertex) n c.state c.taken) (occur g seed (slice_index_or vertices n.entry.vertex no_vertex) n c.state c.taken)
  splits seed c n (late, urgent, q) next due is_first =
      let waits : AllByRecursion (DueBefore (urgent_entry n.entry.time second [])) n.others =
      every-both (λ x. n.entry.time ≤ x.time) NotUrgent (DueBefore (urgent_entry n.entry.time second [])) (λ x from some. due-first (urgent_entry n.entry.time second []) n.entry.time (refl, refl) x from some) n.others
      (others_later c.pending n next) (others-not_urgent c.clock c.pending n late urgent next) in
      let first_is : first ≡ n.entry.vertex = sym (eqb-true n.entry.vertex first is_first) in
      let (v, there) = ok.there in
      let joined = joined_vertex (vertex_at g first) (before ++ after) rights (vertex_at g second) in
      let with_joined : Split g seed second rights n.entry.time (occur g seed (vertex_at g first) n c.state c.taken) (occur g seed joined n c.state c.taken) =
      merged-splits g seed second (vertex_at g first) before after rights n c.state c.taken ok.aside_before ok.aside_after ok.undrawn ok.edges ok.none waits (calm_then seed c.state q n due c.taken) in
      let at_first : Split g seed second rights n.entry.time (occur g seed (vertex_at g first) n c.state c.taken) (occur g seed (slice_index_or vertices first no_vertex) n c.state c.taken) =
      subst (λ (w : EventVertex). Split g seed second rights n.entry.time (occur g seed (vertex_at g first) n c.state c.taken) (occur g seed w n c.state c.taken)) (sym (place-here (λ v. joined_vertex v (before ++ after) rights (vertex_at g second)) first g.vertices no_vertex v there)) with_joined in
      subst (λ k. Split g seed second rights n.entry.time (occur g seed (vertex_at g k) n c.state c.taken) (occur g seed (slice_index_or vertices k no_vertex) n c.state c.taken)) first_is at_first

  keeps : (seed : ℕ) (c : Configuration) (n : EntryAndRest) (d : Configuration) → Inv c → next_entry c.pending ≡ Some n → n.entry.time ≤ 2 ^ 48 → occur g seed (vertex_at g n.entry.vertex) n c.state c.taken ≡ Ok d → Inv d
  keeps seed c n d (late, urgent, q) next due done =
      let v = vertex_at g n.entry.vertex in (
        (occur-on_time g seed v c d n next done).1,
        occur-one_urgent g seed v (ok.priorities n.entry.vertex) c d n late urgent next
            (λ t e got to. ok.exclusive n.entry.vertex e.state (changed g Q ok.kept seed n.entry.time v.changes (record { state = t; taken = c.taken }) e (received g Q ok.kept v.parameters n.entry.values c.state t q got) to) n.entry.time due)
            done,
        occur-keeps g Q ok.kept seed v n c.state c.taken d q done,
      )

  silent_none : (k : ℕ) (c : Configuration) → position (watches k) g.watch ≡ None → completed g k c ≡ []
  silent_none k c none = ap (λ o. option_to_list (option_map (λ place. On c.clock place (watched_values g.watch c.state)) o)) none

  shows : (seed vertex : ℕ) (c : Configuration) (n : EntryAndRest) (d : Configuration) → (vertex == first) ≡ true → n.entry.time ≡ c.clock → occur g seed b n c.state c.taken ≡ Ok d → Discreet g Q first second rights → completed g vertex c ≡ completed g vertex d
  shows seed vertex c n d is_first at_clock done (inl none) =
      let none_here : position (watches vertex) g.watch ≡ None = subst (λ k. position (watches k) g.watch ≡ None) (sym (eqb-true vertex first is_first)) none in
      silent_none vertex c none_here ∙ sym (silent_none vertex d none_here)
  shows seed vertex c n d is_first at_clock done (inr (unwritten, quiet)) =
      let m = made g seed b n c.state c.taken d done in
      let holds : (v : ℕ) → UnwrittenBy b v → Holds c.state d.state v = λ v free. subst (λ t. Holds c.state t v) m.state_is (unwritten-holds g seed n.entry.time b v free n.entry.values c.state m.at_receive c.taken m.at_changes m.is_received m.is_changed) in
      ap₂ (λ (clk : ℕ) (values : List (List ℤ)). option_to_list (option_map (λ place. On clk place values) (position (watches vertex) g.watch))) (sym at_clock ∙ m.clock_is) (sym (values-same b c.state d.state holds g.watch unwritten))

  is_silent : (seed vertex : ℕ) (c : Configuration) (n : EntryAndRest) (k : FaultKind) → (vertex == first) ≡ true → Q c.state → each (value_of g c.state c.clock) rights ≡ Ok n.entry.values → n.entry.time ≡ c.clock → n.entry.time ≤ 2 ^ 48 → occur g seed b n c.state c.taken ≡ Err k → Discreet g Q first second rights → completed g vertex c ≡ []
  is_silent seed vertex c n k is_first q carried at_clock due done (inl none) = silent_none vertex c (subst (λ k. position (watches k) g.watch ≡ None) (sym (eqb-true vertex first is_first)) none)
  is_silent seed vertex c n k is_first q carried at_clock due done (inr (unwritten, quiet)) =
      absurd (quiet seed n c.state c.taken k q due (subst (λ t. each (value_of g c.state t) rights ≡ Ok n.entry.values) (sym at_clock) carried) done)

  facts : (seed : ℕ) → Merging g seed first second rights vertices Inv
  facts seed = record {
    kept = keeps seed;
    elsewhere = λ k apart. placed-elsewhere (λ v. joined_vertex v (before ++ after) rights (vertex_at g second)) first k g.vertices no_vertex apart;
    split = splits seed;
    unwatched = λ c. silent_none second c ok.unwatched;
    shown = λ vertex c n d is_first inv carried next at_clock due done. shows seed vertex c n d is_first at_clock done ok.discreet;
    silent = λ vertex c n k is_first inv carried next at_clock due done. is_silent seed vertex c n k is_first inv.2 carried at_clock due done ok.discreet;
  }

  names-same : (k : ℕ) (c : Bool) → (k == first) ≡ c → ((vertex_at g k).name ≡ (slice_index_or vertices k no_vertex).name) × ((vertex_at g k).parameters ≡ (slice_index_or vertices k no_vertex).parameters)
  names-same k false apart =
      let e = placed-elsewhere (λ v. joined_vertex v (before ++ after) rights (vertex_at g second)) first k g.vertices no_vertex apart in
      (ap (λ (v : EventVertex). v.name) (sym e), ap (λ (v : EventVertex). v.parameters) (sym e))
  names-same k true is =
      let (v, there) = ok.there in
      let e = place-here (λ v. joined_vertex v (before ++ after) rights (vertex_at g second)) first g.vertices no_vertex v there in
      subst (λ k. ((vertex_at g k).name ≡ (slice_index_or vertices k no_vertex).name) × ((vertex_at g k).parameters ≡ (slice_index_or vertices k no_vertex).parameters)) (sym (eqb-true k first is))
      (ap (λ (v : EventVertex). v.name) (sym e), ap (λ (v : EventVertex). v.parameters) (sym e))

  things-same : (watch : List Watched) → map (watched_name_of g) watch ≡ map (watched_name_of (with_vertices g vertices)) watch
  things-same [] = refl
  things-same (WatchedVariable v ∷ watch) = ap (λ ts. watched_name_of g (WatchedVariable v) ∷ ts) (things-same watch)
  things-same (WatchedVertex v ∷ watch) = ap₂ (λ t ts. t ∷ ts) (ap VertexNamed (names-same v (v == first) refl).0) (things-same watch)

  -- the merged graph is the same
  pub merge_keeps : Q (initial_state g) → Same g (joined_at g first second (before ++ after) rights)
  merge_keeps q = record {
    watched = things-same g.watch;
    started = ap (λ (ps : List ℕ). map (λ v. parameter (variable_at g v)) ps) (names-same 0 (0 == first) refl).1;
    runs = λ seed fits starts allowed until early. merged-looks g seed first second rights vertices Inv (facts seed) until early starts (starts-on_time g starts, starts-one_urgent 0 g starts, q);
  }
