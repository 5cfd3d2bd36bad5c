-- The source of a draw that was read and checked.
use Rattle.std.specs.Prelude.{◌≡◌, ℕ, List, [], Option, Some}
use Rattle.model_core.specs.EventGraph as graph
use Rattle.model_core.specs.Text.Lexing.{Lexeme}
use Rattle.model_core.specs.Text.Written.{WrittenSource}
use Rattle.model_core.specs.Text.Language.{source_format}
use Rattle.model_core.specs.Text.Numbering as numbering
use Rattle.model_core.specs.Text.Numbering.{natural}
use Rattle.model_core.specs.Static.Meanings.{Meaning}
use Rattle.model_core.specs.Static.PartFaults.{source_faults}
use Rattle.text_laws.specs.FormatReader.{took}
use Rattle.text_laws.specs.LanguageReader.{language_reader}
use Rattle.static_laws.specs.Checked.{NumberedAs}

-- where names mean this, a source without faults, of this stream and this choice
pub record IsSource (means : List ℕ → Option Meaning) (s : WrittenSource) (stream : ℕ) (choice : graph.Choice) : Type 0 where
  pub unbroken : source_faults means s.stream s.choice ≡ []
  pub is_stream : natural s.stream ≡ Some stream
  pub numbers : NumberedAs means (λ d. numbering.choice d s.choice) choice

-- such a source between these tokens
pub record ReadSource (means : List ℕ → Option Meaning) (before after : List Lexeme) (stream : ℕ) (choice : graph.Choice) : Type 0 where
  pub written : WrittenSource
  pub read : language_reader source_format before ≡ took written after
  pub source : IsSource means written stream choice
