-- What the trees of edges ask of a model: the static rules give it for each state in range.
use Rattle.std.specs.Prelude.{ℕ, IsTrue}
use Rattle.std.specs.List.{AllByRecursion}
use Rattle.model_core.specs.EventGraph.{EventGraph, EventVertex, EventEdge, EdgeKind, Schedule, Delay, Fixed, Drawn}
use Rattle.model_core.specs.Run.State.{State, in_range}
use Rattle.model_core.specs.Run.Value.{value_of}
use Rattle.tree_laws.specs.ValuesAgree.{IsTruthValue, TruthsWhereAsked}
use Rattle.event_laws.specs.ChangesFit.{AlwaysFits}

-- an expression in a delay has truth values where asked
abbrev pub DelayFits : EventGraph → State → ℕ → Delay → Type 0
DelayFits g s clk (Fixed e) = TruthsWhereAsked g s clk e
DelayFits g s clk (Drawn stream choice) = Unit {0}

abbrev pub KindFits : EventGraph → State → ℕ → EdgeKind → Type 0
KindFits g s clk (Schedule delay priority) = DelayFits g s clk delay
KindFits g s clk kind = Unit {0}

-- expressions of an edge have truth values where asked, and so has its condition
pub record EdgeFits (g : EventGraph) (s : State) (clk : ℕ) (e : EventEdge) : Type 0 where
  pub condition : TruthsWhereAsked g s clk e.condition
  pub truth : IsTruthValue (value_of g s clk e.condition)
  pub kind : KindFits g s clk e.kind
  pub values : AllByRecursion (TruthsWhereAsked g s clk) e.values

-- in each state in range
pub record VertexFits (g : EventGraph) (clk : ℕ) (vertex : EventVertex) : Type 0 where
  pub changes : AllByRecursion (AlwaysFits g clk) vertex.changes
  pub edges : (s : State) → IsTrue (in_range g s) → AllByRecursion (EdgeFits g s clk) vertex.edges
