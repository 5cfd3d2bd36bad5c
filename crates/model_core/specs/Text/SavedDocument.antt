-- Which written model and snapshot a saved document spells:
--
--   saved = text snapshot
use Rattle.std.specs.Prelude.{◌≡◌, ℕ, List, Ok}
use Rattle.model_core.specs.Text.Lexing.{Lexeme, tokens_of}
use Rattle.model_core.specs.Text.Written.{WrittenModel}
use Rattle.model_core.specs.Text.DocumentText.{BeginsWithModel}
use Rattle.model_core.specs.Text.SnapshotGrammar.{WrittenSnapshot, IsSnapshot}

-- The tokens of the text are one model text and then one snapshot, written so. The openings of the snapshot aren't
-- counted.
pub record SpellsSaved (text : List ℕ) (m : WrittenModel) (s : WrittenSnapshot) : Type 0 where
  pub tokens : List Lexeme
  pub cut : tokens_of text ≡ Ok tokens
  pub after : List Lexeme
  pub begins : BeginsWithModel tokens m after
  pub ends : IsSnapshot after s
