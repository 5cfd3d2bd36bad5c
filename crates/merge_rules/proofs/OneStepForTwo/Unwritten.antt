-- What an event doesn't write stays.
use Rattle.std.proofs.Common.{◌≡◌, ℕ, ◌==◌, ℤ, false, List, [], Ok}
use Rattle.model_core.specs.EventGraph.{EventGraph, EventVertex}
use Rattle.model_core.specs.Run.State.{State}
use Rattle.model_core.specs.Run.Value.{in_turn}
use Rattle.model_core.specs.Run.Changes.{ChangeState, make_change}
use Rattle.model_core.specs.Run.Step.{receive}
use Rattle.model_core.specs.Rules.MarkedPlaces.{is_among}
use Rattle.model_core.specs.Rules.Uses.{vertex_writes}
use Rattle.model_core.proofs.EachOne.{every-fails}
use Rattle.run_laws.proofs.Spared.HeldValues.{Holds}
use Rattle.run_laws.proofs.Spared.SetPlaces.{written-then, written-elsewhere}
use Rattle.run_laws.proofs.Spared.WrittenChanges.{parameters-written, changes-written}

-- a variable that a vertex doesn't write
abbrev pub UnwrittenBy : EventVertex → ℕ → Type 0
UnwrittenBy b v = is_among (vertex_writes b) v ≡ false

-- what the event leaves of it
pub unwritten-holds : (g : EventGraph) (seed clk : ℕ) (b : EventVertex) (v : ℕ) → UnwrittenBy b v → (values : List ℤ) (s t : State) (taken : List ℕ) (d : ChangeState) → receive g b.parameters values s ≡ Ok t → in_turn (make_change g seed clk) b.changes (record { state = t; taken = taken }) ≡ Ok d → Holds s d.state v
unwritten-holds g seed clk b v unwritten values s t taken d received changed =
    let apart = every-fails (λ w. w == v) (vertex_writes b) unwritten in
    let (variables, streams) = changes-written g seed clk b (record { state = t; taken = taken }) d changed in
    written-elsewhere (vertex_writes b) s d.state v [] apart (written-then (vertex_writes b) s t d.state (parameters-written g b values s t received) variables)
