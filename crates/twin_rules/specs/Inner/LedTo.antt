-- The vertices to which no edge leads.
use Rattle.std.specs.Prelude.{◌≡◌, ℕ, false}
use Rattle.model_core.specs.EventGraph.{EventGraph}
use Rattle.twin_rules.specs.declared.marks.Marks.{Marks}
use Rattle.twin_rules.specs.Inner.ComparedPairs.{some_leads}
use Rattle.twin_rules.specs.Inner.MarkedVertices.{has_mark}

-- no edge of any vertex leads to the one at this place
abbrev pub NoneLeadsTo : EventGraph → ℕ → Type 0
NoneLeadsTo g x = (v : ℕ) → some_leads g v x ≡ false

-- each vertex that isn't marked is such a one
abbrev pub MarksTargets : EventGraph → Marks → Type 0
MarksTargets g m = (x : ℕ) → has_mark m x ≡ false → NoneLeadsTo g x
