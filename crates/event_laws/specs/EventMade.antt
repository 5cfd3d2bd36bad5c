-- The trees of a whole event, and when they follow its run.
use Rattle.std.specs.Prelude.{◌≡◌, ℕ, List, map, Option, Some, Ok, Err}
use Rattle.model_core.specs.EventGraph.{EventGraph, EventVertex}
use Rattle.model_core.specs.Run.State.{State}
use Rattle.model_core.specs.Run.Value.{OrFault, in_turn}
use Rattle.model_core.specs.Run.Value as run
use Rattle.model_core.specs.Run.Changes.{ChangeState, make_change}
use Rattle.model_core.specs.Run.Pending.{EntryAndRest}
use Rattle.model_core.specs.Run.Step.{Configuration, receive}
use Rattle.tree_laws.specs.SumValues.{Valuation}
use Rattle.tree_laws.specs.Limits.{◌>>=◌}
use Rattle.tree_laws.specs.SumEnds.{Ground}
use Rattle.tree_laws.specs.Valued.{Noted, SoFar}
use Rattle.tree_laws.specs.ChecksHold.{Fine, FailedIn}
use Rattle.tree_laws.specs.ValuesAgree.{Agrees}
use Rattle.pair_laws.specs.Effects.{EffectsAndTaken, Done, edges_effects, configuration_after}
use Rattle.pair_laws.specs.Exchanges.{effects_made}
use Rattle.pair_laws.specs.EdgesNow.{effect_at}
use Rattle.event_laws.specs.Making.{WordTaken, Making}
use Rattle.event_laws.specs.ChangesMade.{changes_made}
use Rattle.event_laws.specs.EdgesMade.{EdgeTrees, edges_made, edge_now}
use Rattle.event_laws.specs.WordsAre.{taken_after}

pub record EventMade : Type 0 where
  pub values : SoFar
  pub noted : Noted
  pub words : List WordTaken
  pub edges : List EdgeTrees

-- the changes, and then the edges, whose trees are about the state after the changes
abbrev pub event_made : EventGraph → Ground → EventVertex → Making → Option EventMade
event_made g base vertex m = do
  n ← changes_made g base vertex.changes m
  w ← edges_made g base n.values vertex.edges n.noted n.words
  Some (record { values = n.values; noted = w.noted; words = w.words; edges = w.edges })

-- what an event does once its vertex has received its values
abbrev pub done_after_receiving : EventGraph → ℕ → EventVertex → ℕ → State → List ℕ → OrFault Done
done_after_receiving g seed vertex clk received taken =
    run.◌>>=◌ (in_turn (make_change g seed clk) vertex.changes (record { state = received; taken = taken })) (λ (d : ChangeState).
    run.◌>>=◌ (edges_effects g seed d.state clk vertex.edges d.taken) (λ (p : EffectsAndTaken). Ok (record { state = d.state; taken = p.taken; effects = p.effects })))

-- an event whose entry was taken off: it receives its values, and then the rest, and at last its effects on the others
abbrev pub occur_in_parts : EventGraph → ℕ → EventVertex → EntryAndRest → State → List ℕ → OrFault Configuration
occur_in_parts g seed vertex n s taken =
    run.◌>>=◌ (receive g vertex.parameters n.entry.values s) (λ received.
    run.◌>>=◌ (done_after_receiving g seed vertex n.entry.time received taken) (λ d. Ok (configuration_after n.entry.time n.others d)))

pub record FollowsEvent (v : Valuation) (g : EventGraph) (clk : ℕ) (taken : List ℕ) (d : Done) (e : EventMade) : Type 0 where
  -- all checks pass
  pub fine : Fine v e.noted
  -- the trees have the values of the state after the event
  pub agrees : Agrees v g d.state clk e.values
  -- as many words were taken
  pub words : d.taken ≡ taken_after v taken e.words
  -- the edges have the event's effects on the pending list
  pub effects : d.effects ≡ effects_made (map (λ t. effect_at clk (edge_now v t)) e.edges)

-- the trees follow the event, or the first check that fails is its fault
abbrev pub FollowsDone : Valuation → EventGraph → ℕ → List ℕ → OrFault Done → EventMade → Type 0
FollowsDone v g clk taken (Ok d) e = FollowsEvent v g clk taken d e
FollowsDone v g clk taken (Err f) e = FailedIn v f e.noted
