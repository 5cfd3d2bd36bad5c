-- Receiving its values and making its changes, an event changes only the variables that it writes, and takes words only from
-- the streams from which it draws.
use Rattle.std.proofs.Common.{◌≡◌, ℕ, ◌+◌, ℤ, List, [], ◌∷◌, map, zip, slice_set, inl, Ok, refl, sym, subst}
use Rattle.std.specs.List.{flat_map}
use Rattle.sig_base.specs.Stream.{word}
use Rattle.model_core.specs.EventGraph.{EventGraph, EventVertex, Location, StateChange, Set, Draw}
use Rattle.model_core.specs.Run.State.{State, Place, scalar, variable_at, cells_of, with_cell}
use Rattle.model_core.specs.Run.Value.{each, in_turn, value_of, place_of}
use Rattle.model_core.specs.Run.Changes.{ChangeState, kept, store, set_all, taken_from, one_more, drawn_value, make_change}
use Rattle.model_core.specs.Run.Step.{receive}
use Rattle.model_core.specs.Rules.Uses.{change_writes, vertex_writes, change_streams, edge_streams, vertex_streams}
use Rattle.model_core.proofs.Results.{bind_ok}
use Rattle.run_laws.proofs.PlaceVariables.{place-variable}
use Rattle.model_core.proofs.Among.{Among, each-among, among-map, among-front, among-back, among-flat_map}
use Rattle.run_laws.proofs.Spared.SetPlaces.{ChangedWithin, written-none, written-more}
use Rattle.run_laws.proofs.Spared.NamedVariables.{OfPlaces, stores-named, parameters-named, targets-named}
use Rattle.run_laws.proofs.Spared.InTurn.{in_turn-written}

-- state and words after a change
pub record ChangeWritten (c : StateChange) (d e : ChangeState) : Type 0 where
  pub variables : ChangedWithin (change_writes c) d.state e.state
  pub streams : ChangedWithin (change_streams c) d.taken e.taken

module _ (g : EventGraph) where
  store-written : (vs : List ℕ) (px : Place × ℤ) → Among px.0.variable vs → (s t : State) → store g px s ≡ Ok t → ChangedWithin vs s t
  store-written vs (p, x) among s t done =
      let (y, is, end) = bind_ok (kept (variable_at g p.variable) x) (λ y. Ok (with_cell s p y)) t done in
      let same : with_cell s p y ≡ t = cc in
      record { pairs = (p.variable, slice_set (cells_of s p.variable) p.index y) ∷ []; among = (among, tt); result = same }

  stores-written : (vs : List ℕ) (ps : List Place) (xs : List ℤ) → OfPlaces (λ v. Among v vs) ps → (s t : State) → in_turn (store g) (zip ps xs) s ≡ Ok t → ChangedWithin vs s t
  stores-written vs ps xs among s t done = in_turn-written vs (λ (s : State). s) (λ (px : Place × ℤ). Among px.0.variable vs) (store g) (store-written vs) (zip ps xs) (stores-named (λ v. Among v vs) ps xs among) s t done

  receive-written : (parameters : List ℕ) (values : List ℤ) (s t : State) → receive g parameters values s ≡ Ok t → ChangedWithin parameters s t
  receive-written parameters values s t done =
      stores-written parameters (map scalar parameters) values (parameters-named (λ v. Among v parameters) parameters (each-among (λ p. Among p parameters) parameters (λ p there. there))) s t done

  module _ (seed clk : ℕ) where
    change-written : (c : StateChange) (d e : ChangeState) → make_change g seed clk c d ≡ Ok e → ChangeWritten c d e
    change-written (Set targets rights) d e done =
        let (s, is_set, at_end) = bind_ok (set_all g clk targets rights d.state) (λ s. Ok (record d { state = s })) e done in
        let (values, at_values, after_values) = bind_ok (each (value_of g d.state clk) rights) _ s is_set in
        let (places, at_places, stored) = bind_ok (each (place_of g d.state clk) targets) _ s after_values in
        let same : record d { state = s } ≡ e = cc in
        let targeted = each-among (λ (l : Location). Among l.variable (change_writes (Set targets rights))) targets (λ l there. among-map (λ (l : Location). l.variable) targets l there) in
        subst (ChangeWritten (Set targets rights) d) same (record {
          variables = stores-written (change_writes (Set targets rights)) places values (targets-named (λ v. Among v (change_writes (Set targets rights))) g d.state clk targets places targeted at_places) d.state s stored;
          streams = written-none [] d.taken d.taken refl;
        })
    change-written (Draw target stream choice) d e done =
        let x = drawn_value g choice (word seed stream (taken_from d.taken stream)) in
        let (p, at_place, after_place) = bind_ok (place_of g d.state clk target) _ e done in
        let (s, stored, at_end) = bind_ok (store g (p, x) d.state) (λ s. Ok (record { state = s; taken = one_more d.taken stream })) e after_place in
        let same : record { state = s; taken = one_more d.taken stream } ≡ e = cc in
        subst (ChangeWritten (Draw target stream choice) d) same (record {
          variables = store-written (target.variable ∷ []) (p, x) (inl (sym (place-variable g d.state clk target.variable target.index p at_place))) d.state s stored;
          streams = record { pairs = (stream, taken_from d.taken stream + 1) ∷ []; among = (inl refl, tt); result = refl };
        })

  -- ---- the parameters and the changes of a vertex

  pub parameters-written : (v : EventVertex) (values : List ℤ) (s t : State) → receive g v.parameters values s ≡ Ok t → ChangedWithin (vertex_writes v) s t
  parameters-written v values s t done =
      written-more v.parameters (vertex_writes v) s t (λ k h. among-front v.parameters (flat_map change_writes v.changes) k h) (receive-written v.parameters values s t done)

  pub changes-written : (seed clk : ℕ) (v : EventVertex) (d e : ChangeState) → in_turn (make_change g seed clk) v.changes d ≡ Ok e → ChangedWithin (vertex_writes v) d.state e.state × ChangedWithin (vertex_streams v) d.taken e.taken
  changes-written seed clk v d e done =
      let all = each-among (λ c. Among c v.changes) v.changes (λ c there. there) in (
        in_turn-written (vertex_writes v) (λ (d : ChangeState). d.state) (λ c. Among c v.changes) (make_change g seed clk) (λ c there d e made.
            written-more (change_writes c) (vertex_writes v) d.state e.state (λ k h. among-back v.parameters (flat_map change_writes v.changes) k (among-flat_map change_writes v.changes c k there h)) (change-written seed clk c d e made).variables) v.changes all d e done,
        in_turn-written (vertex_streams v) (λ (d : ChangeState). d.taken) (λ c. Among c v.changes) (make_change g seed clk) (λ c there d e made.
            written-more (change_streams c) (vertex_streams v) d.taken e.taken (λ k h. among-front (flat_map change_streams v.changes) (flat_map edge_streams v.edges) k (among-flat_map change_streams v.changes c k there h)) (change-written seed clk c d e made).streams) v.changes all d e done,
      )
