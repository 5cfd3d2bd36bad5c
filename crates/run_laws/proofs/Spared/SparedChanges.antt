-- What an event does to the state and which words it draws, where variables are set that it neither reads nor writes and
-- streams from which it doesn't draw: the same, beside what is set.
use Rattle.std.proofs.Common.{◌≡◌, ℕ, ◌+◌, ℤ, List, [], map, zip, slice_set, Ok, refl, sym, ◌∙◌, ap, ap₂, subst}
use Rattle.std.specs.List.{AllByRecursion, flat_map}
use Rattle.sig_base.specs.Stream.{word}
use Rattle.model_core.specs.EventGraph.{EventGraph, Expression, Location, StateChange, Set, Draw}
use Rattle.model_core.specs.Run.State.{State, Place, scalar, variable_at, cells_of, with_cell}
use Rattle.model_core.specs.Run.Value.{OrFault, ◌>>=◌, each, in_turn, value_of, place_of}
use Rattle.model_core.specs.Run.Changes.{ChangeState, kept, store, set_all, taken_from, drawn_value, make_change}
use Rattle.model_core.specs.Run.Step.{receive}
use Rattle.model_core.specs.Rules.Uses.{variables_in, location_reads, change_reads, change_writes, change_streams}
use Rattle.run_laws.proofs.PlaceVariables.{place-variable}
use Rattle.model_core.proofs.EachOne.{every-front, every-after, every-flat_map, every-of_map}
use Rattle.run_laws.proofs.Spared.SetPlaces.{sets, Spares, sets-spared, sets-set}
use Rattle.run_laws.proofs.Spared.InTurn.{result_by, bind-after, bind-within, in_turn-after}
use Rattle.run_laws.proofs.Spared.NamedVariables.{OfPlaces, stores-named, parameters-named, targets-named}
use Rattle.run_laws.proofs.Spared.SparedValues.{values-spared, location-spared, locations-spared}

-- variables and streams, set
abbrev pub set_beside : List (ℕ × List ℤ) → List (ℕ × ℕ) → ChangeState → ChangeState
set_beside us ws d = record { state = sets us d.state; taken = sets ws d.taken }

-- what a change uses is spared
pub record ChangeSpared (us : List (ℕ × List ℤ)) (ws : List (ℕ × ℕ)) (c : StateChange) : Type 0 where
  pub reads : AllByRecursion (Spares us) (change_reads c)
  pub writes : AllByRecursion (Spares us) (change_writes c)
  pub streams : AllByRecursion (Spares ws) (change_streams c)

module _ (g : EventGraph) (us : List (ℕ × List ℤ)) where
  cell-spared : (s : State) (p : Place) (y : ℤ) → Spares us p.variable → with_cell (sets us s) p y ≡ sets us (with_cell s p y)
  cell-spared s p y spared =
      ap (λ (cells : List ℤ). slice_set (sets us s) p.variable (slice_set cells p.index y)) (sets-spared us s p.variable [] spared) ∙
      sets-set us s p.variable (slice_set (cells_of s p.variable) p.index y) spared

  store-spared : (px : Place × ℤ) → Spares us px.0.variable → (s : State) → store g px (sets us s) ≡ result_by (sets us) (store g px s)
  store-spared (p, x) spared s =
      bind-within (sets us) (kept (variable_at g p.variable) x) _ _ (λ y is. ap (λ (t : State). let r : OrFault State = Ok t in r) (cell-spared s p y spared))

  stores-spared : (ps : List Place) (xs : List ℤ) → OfPlaces (Spares us) ps → (s : State) → in_turn (store g) (zip ps xs) (sets us s) ≡ result_by (sets us) (in_turn (store g) (zip ps xs) s)
  stores-spared ps xs spared s = in_turn-after (λ (px : Place × ℤ). Spares us px.0.variable) (store g) (sets us) store-spared (zip ps xs) (stores-named (Spares us) ps xs spared) s

  pub receive-spared : (parameters : List ℕ) (values : List ℤ) → AllByRecursion (Spares us) parameters → (s : State) → receive g parameters values (sets us s) ≡ result_by (sets us) (receive g parameters values s)
  receive-spared parameters values spared s = stores-spared (map scalar parameters) values (parameters-named (Spares us) parameters spared) s

  set-spared : (clk : ℕ) (targets : List Location) (rights : List Expression) → AllByRecursion (Spares us) (change_reads (Set targets rights)) → AllByRecursion (Spares us) (change_writes (Set targets rights)) → (s : State) → set_all g clk targets rights (sets us s) ≡ result_by (sets us) (set_all g clk targets rights s)
  set-spared clk targets rights reads writes s =
      let at_targets = every-flat_map (Spares us) location_reads targets (every-front (Spares us) (flat_map location_reads targets) (flat_map variables_in rights) reads) in
      let at_rights = every-flat_map (Spares us) variables_in rights (every-after (Spares us) (flat_map location_reads targets) (flat_map variables_in rights) reads) in
      let written = every-of_map (Spares us) (λ (l : Location). l.variable) targets writes in
      ap₂ (λ (r : OrFault (List ℤ)) (q : OrFault (List Place)). r >>= λ values. q >>= λ places. in_turn (store g) (zip places values) (sets us s)) (values-spared g clk us s rights at_rights) (locations-spared g clk us s targets at_targets) ∙
      bind-within (sets us) (each (value_of g s clk) rights) _ _ (λ values a.
      bind-within (sets us) (each (place_of g s clk) targets) _ _ (λ places b.
      stores-spared places values (targets-named (Spares us) g s clk targets places written b) s))

  module _ (ws : List (ℕ × ℕ)) (seed clk : ℕ) where
    pub change-spared : (c : StateChange) → ChangeSpared us ws c → (d : ChangeState) → make_change g seed clk c (set_beside us ws d) ≡ result_by (set_beside us ws) (make_change g seed clk c d)
    change-spared (Set targets rights) spared d =
        let end : List ℕ → State → OrFault ChangeState = λ taken s. Ok (record { state = s; taken = taken }) in
        ap (λ (r : OrFault State). r >>= end (sets ws d.taken)) (set-spared clk targets rights spared.reads spared.writes d.state) ∙
        bind-after (sets us) (set_beside us ws) (set_all g clk targets rights d.state) (end d.taken) (end (sets ws d.taken)) (λ s made. refl)
    change-spared (Draw target stream choice) spared d =
        let drawn = spared.streams.0 in
        let k = taken_from d.taken stream in
        let x : ℕ → ℤ = λ k. drawn_value g choice (word seed stream k) in
        let end : List ℕ → ℕ → State → OrFault ChangeState = λ taken k s. Ok (record { state = s; taken = slice_set taken stream (k + 1) }) in
        ap₂ (λ (q : OrFault Place) (k : ℕ). q >>= λ p. store g (p, x k) (sets us d.state) >>= end (sets ws d.taken) k) (location-spared g clk us d.state target spared.reads) (sets-spared ws d.taken stream 0 drawn) ∙
        bind-within (set_beside us ws) (place_of g d.state clk target) _ _ (λ p at_place.
        ap (λ (r : OrFault State). r >>= end (sets ws d.taken) k) (store-spared (p, x k) (subst (Spares us) (sym (place-variable g d.state clk target.variable target.index p at_place)) spared.writes.0) d.state) ∙
        bind-after (sets us) (set_beside us ws) (store g (p, x k) d.state) (end d.taken k) (end (sets ws d.taken) k) (λ s stored.
        ap (λ (t : List ℕ). let r : OrFault ChangeState = Ok (record { state = sets us s; taken = t }) in r) (sets-set ws d.taken stream (k + 1) drawn)))

    pub changes-spared : (cs : List StateChange) → AllByRecursion (ChangeSpared us ws) cs → (d : ChangeState) → in_turn (make_change g seed clk) cs (set_beside us ws d) ≡ result_by (set_beside us ws) (in_turn (make_change g seed clk) cs d)
    changes-spared cs spared d = in_turn-after (ChangeSpared us ws) (make_change g seed clk) (set_beside us ws) change-spared cs spared d
