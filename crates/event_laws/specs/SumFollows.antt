-- When the sum of an event follows its run.
use Rattle.std.specs.Prelude.{◌≡◌, ℕ, List, map, Ok, Err}
use Rattle.model_core.specs.EventGraph.{EventGraph}
use Rattle.model_core.specs.Run.Value.{OrFault}
use Rattle.tree_laws.specs.SumValues.{Valuation}
use Rattle.tree_laws.specs.ChecksHold.{Pass, Failed}
use Rattle.tree_laws.specs.ValuesAgree.{Agrees}
use Rattle.pair_laws.specs.Effects.{Done}
use Rattle.pair_laws.specs.EdgesNow.{effect_at}
use Rattle.pair_laws.specs.Exchanges.{EdgeEffect, effects_made, Tidied}
use Rattle.event_laws.specs.EdgesMade.{edge_now}
use Rattle.event_laws.specs.EventClosed.{EventSum}
use Rattle.event_laws.specs.WordsAre.{taken_after}

pub record SumFollows (v : Valuation) (g : EventGraph) (clk : ℕ) (taken : List ℕ) (d : Done) (e : EventSum) : Type 0 where
  -- all checks pass
  pub passes : Pass v e.checks
  -- the trees have the values of the state after the event
  pub agrees : Agrees v g d.state clk e.values
  -- as many words were taken
  pub words : d.taken ≡ taken_after v taken e.words
  -- the event's effects are those of edges of which the sum's edges are the ordered and joined ones
  pub edges : List EdgeEffect
  pub effects : d.effects ≡ effects_made edges
  pub tidied : Tidied edges (map (λ t. effect_at clk (edge_now v t)) e.edges)

-- the sum follows the event, or the first check that fails is its fault
abbrev pub FollowsSum : Valuation → EventGraph → ℕ → List ℕ → OrFault Done → EventSum → Type 0
FollowsSum v g clk taken (Ok d) e = SumFollows v g clk taken d e
FollowsSum v g clk taken (Err f) e = Failed v f e.checks
