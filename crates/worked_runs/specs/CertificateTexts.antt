-- Texts of certificates and of documents, what they spell, and how that is computed.
use Rattle.std.specs.Prelude.{◌≡◌, ℕ, List, [], ◌∷◌, codes, Option, None, Result, Ok, Err}
use Rattle.model_core.specs.EventGraph.{EventGraph}
use Rattle.model_core.specs.Rules.Reduction.{RuleApplication, Drop}
use Rattle.model_core.specs.Text.Lexing.{Lexeme, tokens_of}
use Rattle.model_core.specs.Text.CertificateText.{certificate_format, IsNoCertificateAt}
use Rattle.text_laws.specs.FormatReader.{and_next, whole_read}
use Rattle.text_laws.specs.LanguageReader.{language_reader}
use Rattle.worked_runs.specs.Building.{event}
use Rattle.worked_runs.specs.GrammarTexts.{place_stuck}

-- a text is no certificate, and is refused at this place
pub record IsNoCertificateText (text : List ℕ) (at : ℕ) : Type 0 where
  pub tokens : List Lexeme
  pub cut : tokens_of text ≡ Ok tokens
  pub wrong : IsNoCertificateAt text tokens at

-- the same, computed
abbrev pub certificate_stuck : List ℕ → Result (List Lexeme) ℕ → Option ℕ
certificate_stuck text (Ok tokens) = place_stuck text (and_next whole_read (language_reader certificate_format tokens))
certificate_stuck text (Err at) = None

-- two small models, of which the second has one vertex less
abbrev pub two_vertices : EventGraph
two_vertices = record { name = codes "M"; variables = []; tables = []; watch = []; vertices = event (codes "A") [] [] ∷ event (codes "B") [] [] ∷ [] }

abbrev pub one_vertex : EventGraph
one_vertex = record { name = codes "M"; variables = []; tables = []; watch = []; vertices = event (codes "A") [] [] ∷ [] }

abbrev pub dropping : List RuleApplication
dropping = Drop (codes "B" ∷ []) ∷ []

-- the document of these two
abbrev pub two_models : List ℕ
two_models = codes "model M; vertex A { } vertex B { } end model M; vertex A { } end certificate drop B end"
