-- Two models with their normal forms, and whether these are equal but for names.
use Rattle.std.specs.Prelude.{Bool}
use Rattle.model_core.specs.EventGraph.{EventGraph}
use Rattle.model_core.specs.Rules.SameGraph.{same_graph}
use Rattle.alike_laws.specs.Nameless.{nameless}
use Rattle.normal_form.specs.Normal.{Normal}

-- the normal forms of two models
pub record NormalForms (g h : EventGraph) : Type 0 where
  pub first : EventGraph
  pub second : EventGraph
  pub of_first : Normal g first
  pub of_second : Normal h second

-- two models are equal, whatever they and their parts are called
abbrev pub equal_but_names : EventGraph → EventGraph → Bool
equal_but_names g h = same_graph (nameless g) (nameless h)
