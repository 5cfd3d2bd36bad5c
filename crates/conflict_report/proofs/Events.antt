-- A whole event: it does the same beside what is set that it doesn't use, and changes only what it writes and draws from.
use Rattle.std.proofs.Common.{◌≡◌, ℕ, ℤ, List, [], ◌++◌, Ok, refl, ◌∙◌, ap, subst}
use Rattle.std.specs.List.{AllByRecursion, flat_map}
use Rattle.model_core.specs.EventGraph.{EventGraph, EventVertex, EventEdge}
use Rattle.model_core.specs.Run.State.{State}
use Rattle.model_core.specs.Run.Value.{OrFault, ◌>>=◌, in_turn}
use Rattle.model_core.specs.Run.Changes.{ChangeState, make_change}
use Rattle.model_core.specs.Run.Step.{receive}
use Rattle.model_core.specs.Rules.Uses.{change_reads, change_writes, edge_reads, vertex_reads, vertex_writes, change_streams, edge_streams, vertex_streams}
use Rattle.model_core.specs.Conflicts.Conflict.{named_vertices, edge_cancelled, cancelled_vertices}
use Rattle.model_core.proofs.Results.{bind_ok}
use Rattle.model_core.proofs.EachOne.{every-both, every-front, every-after, every-flat_map}
use Rattle.model_core.proofs.Among.{Among, each-among, among-back, among-map, among-flat_map}
use Rattle.run_laws.proofs.Spared.SetPlaces.{sets, Spares, ChangedWithin, written-then, written-more}
use Rattle.run_laws.proofs.Spared.InTurn.{result_by, bind-after, in_turn-leads, in_turn-written}
use Rattle.run_laws.proofs.Spared.SparedChanges.{set_beside, ChangeSpared, receive-spared, changes-spared}
use Rattle.run_laws.proofs.Spared.WrittenChanges.{parameters-written, changes-written}
use Rattle.conflict_report.proofs.SparedEdges.{plan_beside, EdgeSpared, plans-spared}
use Rattle.conflict_report.proofs.WrittenEdges.{DeedOn, EdgeWritten, plan-written, cancelling-cancelled}
use Rattle.conflict_report.proofs.ListEdits.{Plan, plan, Outcome, outcome_of}

-- ---- what is spared

-- variables and streams, set in what an event leaves
abbrev pub outcome_beside : List (ℕ × List ℤ) → List (ℕ × ℕ) → Outcome → Outcome
outcome_beside us ws o = record o { drawn = set_beside us ws o.drawn }

-- what a vertex uses is spared
pub record VertexSpared (us : List (ℕ × List ℤ)) (ws : List (ℕ × ℕ)) (v : EventVertex) : Type 0 where
  pub variables : AllByRecursion (Spares us) (vertex_reads v ++ vertex_writes v)
  pub streams : AllByRecursion (Spares ws) (vertex_streams v)

module _ (us : List (ℕ × List ℤ)) (ws : List (ℕ × ℕ)) (v : EventVertex) (spared : VertexSpared us ws v) where
  read : AllByRecursion (Spares us) (vertex_reads v)
  read = every-front (Spares us) (vertex_reads v) (vertex_writes v) spared.variables

  written : AllByRecursion (Spares us) (vertex_writes v)
  written = every-after (Spares us) (vertex_reads v) (vertex_writes v) spared.variables

  changes_are_spared : AllByRecursion (ChangeSpared us ws) v.changes
  changes_are_spared =
      let reads = every-flat_map (Spares us) change_reads v.changes (every-front (Spares us) (flat_map change_reads v.changes) (flat_map edge_reads v.edges) read) in
      let writes = every-flat_map (Spares us) change_writes v.changes (every-after (Spares us) v.parameters (flat_map change_writes v.changes) written) in
      let streams = every-flat_map (Spares ws) change_streams v.changes (every-front (Spares ws) (flat_map change_streams v.changes) (flat_map edge_streams v.edges) spared.streams) in
      let both = every-both _ _ (λ c. AllByRecursion (Spares us) (change_reads c) × AllByRecursion (Spares us) (change_writes c)) (λ c r w. (r, w)) v.changes reads writes in
      every-both _ _ (ChangeSpared us ws) (λ c p s. record { reads = p.0; writes = p.1; streams = s }) v.changes both streams

  edges_are_spared : AllByRecursion (EdgeSpared us ws) v.edges
  edges_are_spared =
      let reads = every-flat_map (Spares us) edge_reads v.edges (every-after (Spares us) (flat_map change_reads v.changes) (flat_map edge_reads v.edges) read) in
      let streams = every-flat_map (Spares ws) edge_streams v.edges (every-after (Spares ws) (flat_map change_streams v.changes) (flat_map edge_streams v.edges) spared.streams) in
      every-both _ _ (EdgeSpared us ws) (λ e r s. record { reads = r; streams = s }) v.edges reads streams

  -- the event does the same, beside what is set
  pub event-spared : (g : EventGraph) (seed clk : ℕ) (values : List ℤ) (d : ChangeState) → outcome_of g seed clk v values (set_beside us ws d) ≡ result_by (outcome_beside us ws) (outcome_of g seed clk v values d)
  event-spared g seed clk values d =
      let end : ChangeState → Plan → OrFault Outcome = λ e p. Ok (record { drawn = record { state = e.state; taken = p.taken }; deeds = p.deeds }) in
      let edges : ChangeState → OrFault Outcome = λ e. in_turn (plan g seed e.state clk) v.edges (record { deeds = []; taken = e.taken }) >>= end e in
      let changes : List ℕ → State → OrFault Outcome = λ taken s. in_turn (make_change g seed clk) v.changes (record { state = s; taken = taken }) >>= edges in
      let beside = outcome_beside us ws in
      ap (λ (r : OrFault State). r >>= changes (sets ws d.taken)) (receive-spared g us v.parameters values (every-front (Spares us) v.parameters (flat_map change_writes v.changes) written) d.state) ∙
      bind-after (sets us) beside (receive g v.parameters values d.state) (changes d.taken) (changes (sets ws d.taken)) (λ s got.
      ap (λ (r : OrFault ChangeState). r >>= edges) (changes-spared g us ws seed clk v.changes changes_are_spared (record { state = s; taken = d.taken })) ∙
      bind-after (set_beside us ws) beside (in_turn (make_change g seed clk) v.changes (record { state = s; taken = d.taken })) edges edges (λ e made.
      ap (λ (r : OrFault Plan). r >>= end (set_beside us ws e)) (plans-spared g us ws seed e.state clk v.edges edges_are_spared (record { deeds = []; taken = e.taken })) ∙
      bind-after (plan_beside ws) beside (in_turn (plan g seed e.state clk) v.edges (record { deeds = []; taken = e.taken })) (end e) (end (set_beside us ws e)) (λ p planned. refl)))

-- ---- what is written

-- state and words after an event, and its deeds
pub record EventWritten (v : EventVertex) (d : ChangeState) (o : Outcome) : Type 0 where
  pub variables : ChangedWithin (vertex_writes v) d.state o.drawn.state
  pub streams : ChangedWithin (vertex_streams v) d.taken o.drawn.taken
  pub deeds : AllByRecursion (DeedOn (named_vertices v) (cancelled_vertices v)) o.deeds

module _ (g : EventGraph) (seed clk : ℕ) (v : EventVertex) where
  -- the edge's plan, where it is one of the vertex
  edge-written : (s : State) (e : EventEdge) → Among e v.edges → (p q : Plan) → plan g seed s clk e p ≡ Ok q → EdgeWritten (edge_streams e) (named_vertices v) (cancelled_vertices v) p q
  edge-written s e there p q planned =
      plan-written g seed s clk (named_vertices v) (cancelled_vertices v) e (among-map (λ (e : EventEdge). e.target) v.edges e there) p (λ cancels. among-flat_map edge_cancelled v.edges e e.target there (cancelling-cancelled e cancels)) q planned

  edges-written : (s : State) (p q : Plan) → in_turn (plan g seed s clk) v.edges p ≡ Ok q → ChangedWithin (vertex_streams v) p.taken q.taken × (AllByRecursion (DeedOn (named_vertices v) (cancelled_vertices v)) p.deeds → AllByRecursion (DeedOn (named_vertices v) (cancelled_vertices v)) q.deeds)
  edges-written s p q done =
      let all = each-among (λ e. Among e v.edges) v.edges (λ e there. there) in (
        in_turn-written (vertex_streams v) (λ (p : Plan). p.taken) (λ e. Among e v.edges) (plan g seed s clk) (λ e there p q planned.
            written-more (edge_streams e) (vertex_streams v) p.taken q.taken (λ k h. among-back (flat_map change_streams v.changes) (flat_map edge_streams v.edges) k (among-flat_map edge_streams v.edges e k there h)) (edge-written s e there p q planned).streams_drawn) v.edges all p q done,
        in_turn-leads (λ (p q : Plan). AllByRecursion (DeedOn (named_vertices v) (cancelled_vertices v)) p.deeds → AllByRecursion (DeedOn (named_vertices v) (cancelled_vertices v)) q.deeds) (λ p h. h) (λ p q r f h x. h (f x)) (λ e. Among e v.edges) (plan g seed s clk) (λ e there p q planned. (edge-written s e there p q planned).deeds) v.edges all p q done,
      )

  pub event-written : (values : List ℤ) (d : ChangeState) (o : Outcome) → outcome_of g seed clk v values d ≡ Ok o → EventWritten v d o
  event-written values d o done =
      let (s, got, after_got) = bind_ok (receive g v.parameters values d.state) _ o done in
      let (e, made, after_made) = bind_ok (in_turn (make_change g seed clk) v.changes (record { state = s; taken = d.taken })) _ o after_got in
      let (p, planned, end) = bind_ok (in_turn (plan g seed e.state clk) v.edges (record { deeds = []; taken = e.taken })) (λ p. Ok (record { drawn = record { state = e.state; taken = p.taken }; deeds = p.deeds })) o after_made in
      let same : record { drawn = record { state = e.state; taken = p.taken }; deeds = p.deeds } ≡ o = cc in
      let (variables, streams) = changes-written g seed clk v (record { state = s; taken = d.taken }) e made in
      let (more, deeds) = edges-written e.state (record { deeds = []; taken = e.taken }) p planned in
      let parameters = parameters-written g v values d.state s got in
      subst (EventWritten v d) same (record {
        variables = written-then (vertex_writes v) d.state s e.state parameters variables;
        streams = written-then (vertex_streams v) d.taken e.taken p.taken streams more;
        deeds = deeds tt;
      })
