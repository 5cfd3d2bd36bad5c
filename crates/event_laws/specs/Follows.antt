-- When what is made of an event follows a run: its trees have the values of the state, its checks pass, and its words are taken.
use Rattle.std.specs.Prelude.{◌≡◌, ℕ, List, Ok, Err}
use Rattle.model_core.specs.EventGraph.{EventGraph}
use Rattle.model_core.specs.Run.Value.{OrFault}
use Rattle.model_core.specs.Run.Changes.{ChangeState}
use Rattle.tree_laws.specs.SumValues.{Valuation}
use Rattle.tree_laws.specs.ChecksHold.{Fine, FailedIn}
use Rattle.tree_laws.specs.ValuesAgree.{Agrees}
use Rattle.event_laws.specs.Making.{Making}
use Rattle.event_laws.specs.WordsAre.{taken_after}

pub record Follows (v : Valuation) (g : EventGraph) (clk : ℕ) (taken : List ℕ) (d : ChangeState) (m : Making) : Type 0 where
  pub fine : Fine v m.noted
  pub agrees : Agrees v g d.state clk m.values
  pub words : d.taken ≡ taken_after v taken m.words

-- the trees follow the result, or the first check that fails is the fault
abbrev pub FollowsResult : Valuation → EventGraph → ℕ → List ℕ → OrFault ChangeState → Making → Type 0
FollowsResult v g clk taken (Ok d) m = Follows v g clk taken d m
FollowsResult v g clk taken (Err f) m = FailedIn v f m.noted
