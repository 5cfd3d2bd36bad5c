-- Models that differ in edges alone which do the same have the same runs.
use Rattle.std.proofs.Common.{◌≡◌, ℕ, ◌^◌, ◌≤◌, List, map, slice_index_or, Ok, refl, sym, ◌∙◌, ap}
use Rattle.std.proofs.lemmas.List.{map-id}
use Rattle.model_core.specs.EventGraph.{EventGraph, EventVertex, StateChange, Watched, WatchedVariable, WatchedVertex}
use Rattle.model_core.specs.Run.State.{State, variable_at, initial_state}
use Rattle.model_core.specs.Run.Value.{OrFault, ◌>>=◌, in_turn}
use Rattle.model_core.specs.Run.Changes.{make_change}
use Rattle.model_core.specs.Run.Pending.{Entry, EntryAndRest}
use Rattle.model_core.specs.Run.Edges.{EdgeState, treat_edge}
use Rattle.model_core.specs.Run.Step.{Configuration, no_vertex, vertex_at, receive, occur}
use Rattle.model_core.specs.Run.Same.{Same, watched_name_of, VertexNamed, parameter}
use Rattle.model_core.proofs.Results.{bind_same}
use Rattle.model_core.proofs.Alongside.{Alongside, alongside-equal, alongside-known}
use Rattle.run_laws.proofs.MappedPending.{taken_off_mapped}
use Rattle.run_laws.proofs.LockStep.{entry_mapped, configuration_mapped, Follows, follows-looks}
use Rattle.run_laws.proofs.Keeping.{Kept, received, changed, occur-keeps}

-- the graph with these vertices in place of its own
abbrev pub with_vertices : EventGraph → List EventVertex → EventGraph
with_vertices g vertices = record g { vertices = vertices }

-- in states of which Q holds, up to the last stop time, the edges of v and w do the same, and all else in them is equal
pub record Alike (g : EventGraph) (Q : State → Type 0) (v w : EventVertex) : Type 0 where
  pub name : v.name ≡ w.name
  pub parameters : v.parameters ≡ w.parameters
  pub changes : v.changes ≡ w.changes
  pub edges : (s : State) → Q s → (seed clk : ℕ) → clk ≤ 2 ^ 48 → (p : EdgeState) → in_turn (treat_edge g seed s clk) v.edges p ≡ in_turn (treat_edge g seed s clk) w.edges p

pub itself-alike : (g : EventGraph) (Q : State → Type 0) (v : EventVertex) → Alike g Q v v
itself-alike g Q v = record { name = refl; parameters = refl; changes = refl; edges = λ s q seed clk early p. refl }

occur-alike : (g : EventGraph) (Q : State → Type 0) → Kept g Q → (seed : ℕ) (v w : EventVertex) → Alike g Q v w → (n : EntryAndRest) → n.entry.time ≤ 2 ^ 48 → (s : State) (taken : List ℕ) → Q s → occur g seed v n s taken ≡ occur g seed w n s taken
occur-alike g Q kept seed v w alike n due s taken q =
    let time = n.entry.time in
    let same_edges : occur g seed v n s taken ≡ occur g seed (record v { edges = w.edges }) n s taken =
    bind_same (receive g v.parameters n.entry.values s) _ _ (λ t at_receive.
    bind_same (in_turn (make_change g seed time) v.changes (record { state = t; taken = taken })) _ _ (λ d at_changes.
    let holds : Q d.state = changed g Q kept seed time v.changes (record { state = t; taken = taken }) d (received g Q kept v.parameters n.entry.values s t q at_receive) at_changes in
    ap (λ (r : OrFault EdgeState). r >>= λ p. Ok (record { clock = time; state = d.state; taken = p.taken; pending = p.pending })) (alike.edges d.state holds seed time due (record { pending = n.others; taken = d.taken })))) in
    let same_changes : occur g seed (record v { edges = w.edges }) n s taken ≡ occur g seed (record w { parameters = v.parameters }) n s taken =
    ap (λ (cs : List StateChange). occur g seed (record w { parameters = v.parameters; changes = cs }) n s taken) alike.changes in
    let same_parameters : occur g seed (record w { parameters = v.parameters }) n s taken ≡ occur g seed w n s taken =
    ap (λ (ps : List ℕ). occur g seed (record w { parameters = ps }) n s taken) alike.parameters in
    same_edges ∙ (same_changes ∙ same_parameters)

-- ---- one graph with the vertices of another, each of which is alike: in lock step, with each moment as it is

-- an entry as it is
abbrev pub unchanged : Entry → Entry
unchanged e = entry_mapped (λ v. v) (λ (e : Entry). e.values) e

pub entries_in_order-unchanged : (n : EntryAndRest) → taken_off_mapped unchanged n ≡ n
entries_in_order-unchanged n = ap (λ (others : List Entry). record n { others = others }) (map-id n.others)

pub configuration-unchanged : (c : Configuration) → configuration_mapped (λ s. s) (λ words. words) unchanged c ≡ c
configuration-unchanged c = ap (λ (pending : List Entry). record c { pending = pending }) (map-id c.pending)

module _ (g : EventGraph) (vertices : List EventVertex) (Q : State → Type 0) (kept : Kept g Q) (alike : (k : ℕ) → Alike g Q (vertex_at g k) (slice_index_or vertices k no_vertex)) where
  abbrev Sound : Configuration → Type 0
  Sound c = Q c.state

  steps-alike : (seed : ℕ) (c : Configuration) (n : EntryAndRest) → Q c.state → n.entry.time ≤ 2 ^ 48 → Alongside (λ (c d : Configuration). (configuration_mapped (λ s. s) (λ words. words) unchanged c ≡ d) × Q c.state) (occur g seed (vertex_at g n.entry.vertex) n c.state c.taken) (occur g seed (slice_index_or vertices n.entry.vertex no_vertex) (taken_off_mapped unchanged n) c.state c.taken)
  steps-alike seed c n q due =
      let k = n.entry.vertex in
      let same = occur-alike g Q kept seed (vertex_at g k) (slice_index_or vertices k no_vertex) (alike k) n due c.state c.taken q in
      let moved = ap (λ (n : EntryAndRest). occur g seed (slice_index_or vertices k no_vertex) n c.state c.taken) (sym (entries_in_order-unchanged n)) in
      alongside-known (λ (c d : Configuration). configuration_mapped (λ s. s) (λ words. words) unchanged c ≡ d) Sound
      (alongside-equal (λ (c d : Configuration). configuration_mapped (λ s. s) (λ words. words) unchanged c ≡ d) configuration-unchanged (same ∙ moved))
      (λ d done. occur-keeps g Q kept seed (vertex_at g k) n c.state c.taken d q done)

  follows-alike : (seed : ℕ) → Follows g (with_vertices g vertices) (λ s. s) (λ words. words) (λ v. v) (λ e. e.values) Sound seed
  follows-alike seed = record {
    watched = λ s. refl;
    places = λ c n sound next. refl;
    steps = λ c n sound next due. steps-alike seed c n sound due;
  }

watched_name_of-same : (g : EventGraph) (vertices : List EventVertex) → ((k : ℕ) → (vertex_at g k).name ≡ (slice_index_or vertices k no_vertex).name) → (w : Watched) → watched_name_of g w ≡ watched_name_of (with_vertices g vertices) w
watched_name_of-same g vertices same (WatchedVariable v) = refl
watched_name_of-same g vertices same (WatchedVertex v) = ap VertexNamed (same v)

-- so they are the same, where Q holds as a run begins
pub alike-Same : (g : EventGraph) (vertices : List EventVertex) (Q : State → Type 0) → Kept g Q → ((k : ℕ) → Alike g Q (vertex_at g k) (slice_index_or vertices k no_vertex)) → Q (initial_state g) → Same g (with_vertices g vertices)
alike-Same g vertices Q kept alike q = record {
  watched = λ i. map (λ w. watched_name_of-same g vertices (λ k. (alike k).name) w i) g.watch;
  started = ap (λ (ps : List ℕ). map (λ v. parameter (variable_at g v)) ps) (alike 0).parameters;
  runs = λ seed fits starts ok until early.
      follows-looks g (with_vertices g vertices) (λ s. s) (λ words. words) (λ v. v) (λ e. e.values) (Sound g vertices Q kept alike) seed (follows-alike g vertices Q kept alike seed) until early starts refl q;
}
