-- The trees of a whole event follow its run.
use Rattle.std.proofs.Common.{◌≡◌, ℕ, true, List, [], map, IsTrue, Some, Ok, Err, refl, sym, subst}
use Rattle.model_core.proofs.Results.{in_turn-keeps}
use Rattle.model_core.specs.EventGraph.{EventGraph, EventVertex}
use Rattle.model_core.specs.Run.State.{State, in_range}
use Rattle.model_core.specs.Run.Value.{OrFault, in_turn}
use Rattle.model_core.specs.Run.Value as run
use Rattle.model_core.specs.Run.Changes.{ChangeState, make_change}
use Rattle.run_laws.proofs.InRange.{in_range-kept}
use Rattle.tree_laws.specs.SumValues.{Valuation}
use Rattle.tree_laws.specs.SumEnds.{Ground}
use Rattle.tree_laws.specs.Meaning.{Meets}
use Rattle.tree_laws.specs.ValuesAgree.{Agrees}
use Rattle.pair_laws.specs.Effects.{EffectsAndTaken, edges_effects}
use Rattle.pair_laws.specs.Exchanges.{effects_made}
use Rattle.pair_laws.specs.EdgesNow.{effect_at}
use Rattle.event_laws.specs.Making.{Making, with_words}
use Rattle.event_laws.specs.ChangesMade.{changes_made}
use Rattle.event_laws.specs.EdgesFit.{VertexFits}
use Rattle.event_laws.specs.EdgesMade.{EdgesMade, edges_made, edge_now}
use Rattle.event_laws.specs.EventMade.{EventMade, event_made, done_after_receiving, FollowsDone}
use Rattle.event_laws.specs.WordsAre.{taken_after, WordsAre}
use Rattle.event_laws.specs.Follows.{Follows, FollowsResult}
use Rattle.event_laws.proofs.ReachedTogether.{Reaches}
use Rattle.event_laws.proofs.ChangesFollow.{bind_some, changes-follow}
use Rattle.event_laws.proofs.EdgesFollow.{edges-grow, edges-stopped, edges-follow}

module _ (v : Valuation) (g : EventGraph) (clk : ℕ) (base : Ground) (seed : ℕ) (taken : List ℕ) (meets : Meets (with_words g base []) v) (vertex : EventVertex) where
  -- the event whose changes and edges are made
  abbrev joined_event : Making → EdgesMade → EventMade
  joined_event n w = record { values = n.values; noted = w.noted; words = w.words; edges = w.edges }

  edges_done : (n : Making) (w : EdgesMade) (d : ChangeState) → Agrees v g d.state clk n.values → (r : OrFault EffectsAndTaken) → Reaches v (λ (w : EdgesMade). w.noted) (λ (ea : EffectsAndTaken) (w : EdgesMade). (ea.effects ≡ effects_made (map (λ t. effect_at clk (edge_now v t)) w.edges)) × (ea.taken ≡ taken_after v taken w.words)) r w
      → FollowsDone v g clk taken (run.◌>>=◌ r (λ (p : EffectsAndTaken). Ok (record { state = d.state; taken = p.taken; effects = p.effects }))) (joined_event n w)
  edges_done n w d agrees (Ok p) (fine, (same, counted)) = record { fine = fine; agrees = agrees; words = counted; effects = same }
  edges_done n w d agrees (Err f) failed = failed

  pub event-follows : VertexFits g clk vertex → (received : State) → IsTrue (in_range g received) → (m : Making) → Follows v g clk taken (record { state = received; taken = taken }) m → (e : EventMade) → event_made g base vertex m ≡ Some e → WordsAre v g seed taken e.words
      → FollowsDone v g clk taken (done_after_receiving g seed vertex clk received taken) e
  event-follows fits received inside m follows e made are =
      let (n, at_n, rest) = bind_some (changes_made g base vertex.changes m) _ e made in
      let (w, at_w, last) = bind_some (edges_made g base n.values vertex.edges n.noted n.words) _ e rest in
      let same : joined_event n w ≡ e = cc in
      let are_w = subst (λ (e : EventMade). WordsAre v g seed taken e.words) (sym same) are in
      let are_n = edges-grow v g base n.values seed taken meets vertex.edges n.noted n.words w at_w are_w in
      subst (FollowsDone v g clk taken (done_after_receiving g seed vertex clk received taken)) same
      (by n w at_w are_w (in_turn (make_change g seed clk) vertex.changes (record { state = received; taken = taken })) refl
      (changes-follow v g clk base seed taken meets vertex.changes fits.changes (record { state = received; taken = taken }) inside m n follows are_n at_n)) where
        by : (n : Making) (w : EdgesMade) → edges_made g base n.values vertex.edges n.noted n.words ≡ Some w → WordsAre v g seed taken w.words
            → (r : OrFault ChangeState) → in_turn (make_change g seed clk) vertex.changes (record { state = received; taken = taken }) ≡ r → FollowsResult v g clk taken r n
            → FollowsDone v g clk taken (run.◌>>=◌ r (λ (d : ChangeState). run.◌>>=◌ (edges_effects g seed d.state clk vertex.edges d.taken) (λ (p : EffectsAndTaken). Ok (record { state = d.state; taken = p.taken; effects = p.effects })))) (joined_event n w)
        by n w at_w are_w (Ok d) done so =
            let inside_too : in_range g d.state ≡ true = in_turn-keeps (λ (d : ChangeState). in_range g d.state ≡ true) (make_change g seed clk) (λ c d1 d2. (in_range-kept g).by_change seed clk c d1 d2) vertex.changes (record { state = received; taken = taken }) d inside done in
            edges_done n w d so.agrees (edges_effects g seed d.state clk vertex.edges d.taken)
            (edges-follow v g base n.values seed taken meets d.state clk so.agrees vertex.edges (fits.edges d.state inside_too) d.taken n.words so.words n.noted w at_w are_w so.fine)
        by n w at_w are_w (Err f) done failed = edges-stopped v g base n.values seed taken meets f vertex.edges n.noted n.words w at_w are_w failed
