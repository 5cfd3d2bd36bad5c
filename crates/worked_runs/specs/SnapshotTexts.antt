-- Texts that are no snapshot, and how that is computed.
use Rattle.std.specs.Prelude.{◌≡◌, ℕ, List, Option, None, Result, Ok, Err}
use Rattle.model_core.specs.Text.Lexing.{Lexeme, tokens_of}
use Rattle.model_core.specs.Text.SnapshotGrammar.{snapshot_format, IsNoSnapshotAt}
use Rattle.text_laws.specs.FormatReader.{and_next, whole_read}
use Rattle.text_laws.specs.LanguageReader.{language_reader}
use Rattle.worked_runs.specs.GrammarTexts.{place_stuck}

-- a text is no snapshot, and is refused at this place
pub record IsNoSnapshotText (text : List ℕ) (at : ℕ) : Type 0 where
  pub tokens : List Lexeme
  pub cut : tokens_of text ≡ Ok tokens
  pub wrong : IsNoSnapshotAt text tokens at

-- the same, computed
abbrev pub snapshot_stuck : List ℕ → Result (List Lexeme) ℕ → Option ℕ
snapshot_stuck text (Ok tokens) = place_stuck text (and_next whole_read (language_reader snapshot_format tokens))
snapshot_stuck text (Err at) = None
