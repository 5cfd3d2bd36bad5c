-- What may be known of a graph beside itself: how long its canonical text is after the line of its version, and whether it
-- has that line, whether it is single urgent, and how long the lines of what each vertex does are.
use Rattle.std.specs.Prelude.{◌≡◌, ℕ, ◌+◌, Bool, Option, Some, None, length}
use Rattle.std.specs.Option.{option_map, option_and_then}
use Rattle.model_core.specs.EventGraph.{EventGraph}
use Rattle.model_core.specs.Text.Canonical.{version_line, canonical}
use Rattle.model_core.specs.Text.VersionNeeded.{needs_version_two}
use Rattle.model_core.specs.Rules.UrgentEdges.{single_urgent}
use Rattle.model_facts.specs.KnownLengths.{BodiesAreRight}
use Rattle.model_facts.specs.declared.facts.FactsOfModel.{FactsOfModel}

-- the number of bytes, where there is one, is that of the graph's canonical text
abbrev pub TextLengthIsRight : EventGraph → Option ℕ → Type 0
TextLengthIsRight g (Some bytes) = bytes ≡ length (canonical g)
TextLengthIsRight g None = Unit {0}

-- the number of bytes, where there is one, is that of the text after the line of its version
abbrev pub LinesAreRight : EventGraph → Option ℕ → Type 0
LinesAreRight g (Some bytes) = length (version_line (needs_version_two g)) + bytes ≡ length (canonical g)
LinesAreRight g None = Unit {0}

-- the answer, where there is one, says rightly whether only a text of version 2 can write the graph
abbrev pub VersionIsRight : EventGraph → Option Bool → Type 0
VersionIsRight g (Some two) = two ≡ needs_version_two g
VersionIsRight g None = Unit {0}

-- the answer, where there is one, says rightly whether the graph is single urgent
abbrev pub SingleIsRight : EventGraph → Option Bool → Type 0
SingleIsRight g (Some single) = single ≡ single_urgent g
SingleIsRight g None = Unit {0}

-- what is known is so
pub record FactsAreRight (g : EventGraph) (facts : FactsOfModel) : Type 0 where
  pub lines : LinesAreRight g facts.lines
  pub version : VersionIsRight g facts.version_two
  pub single : SingleIsRight g facts.single
  pub bodies : BodiesAreRight g facts.bodies

-- how many bytes the canonical text has, where both are known
abbrev pub text_length : FactsOfModel → Option ℕ
text_length facts = option_and_then (λ two. option_map (λ bytes. length (version_line two) + bytes) facts.lines) facts.version_two
