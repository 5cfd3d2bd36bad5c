use Rattle.std.proofs.Common.{◌≡◌, List, ℕ, ap, sym, ◌∙◌}
use Rattle.std.specs.Prelude.{Option, Some}
use Rattle.model_core.specs.EventGraph.{EventGraph}
use Rattle.model_core.specs.Text.Numbering.{numbered}
use Rattle.model_core.specs.Static.Reading.{Reads}
use Rattle.text_laws.proofs.Formats.TextLaws.{one_model}
use Rattle.text_laws.proofs.reading_laws.texts_read_as_one_model.Goals as goal

same_graph : (g h : EventGraph) → ◌≡◌ {A = Option EventGraph} (Some g) (Some h) → g ≡ h
same_graph g h e = cc

one_graph : (text : List ℕ) (g h : EventGraph) → Reads text g → Reads text h → g ≡ h
one_graph text g h r s = same_graph g h (sym r.accepted.numbers ∙ ap numbered (one_model text r.model s.model r.spells s.spells) ∙ s.accepted.numbers)

pub returns : goal.returns
returns c = one_graph
