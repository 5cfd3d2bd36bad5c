-- Texts that spell by the grammar, and how that is computed.
use Rattle.std.specs.Prelude.{◌≡◌, ℕ, List, [], Option, Some, None, Result, Ok, Err}
use Rattle.model_core.specs.Text.Lexing.{Lexeme, tokens_of}
use Rattle.model_core.specs.Text.Written.{WrittenModel}
use Rattle.model_core.specs.Text.Format.{Spells}
use Rattle.model_core.specs.Text.Expressions.{LanguageFormat, level_format}
use Rattle.model_core.specs.Text.Language.{text_format}
use Rattle.model_core.specs.Text.FirstWrong.{IsUnexpectedAt, wrong_place}
use Rattle.model_core.specs.Text.Openings.{front_to_end, too_deep_at}
use Rattle.text_laws.specs.FormatReader.{Parse, and_next, whole_read}
use Rattle.text_laws.specs.LanguageReader.{language_reader, text_read}

-- the whole of a text spells this value of a format
pub record IsSpelled {A : Type 0} (f : LanguageFormat A) (text : List ℕ) (value : A) : Type 0 where
  pub tokens : List Lexeme
  pub cut : tokens_of text ≡ Ok tokens
  pub spelled : Spells level_format f tokens value []

-- a text is some model's
pub record IsModelText (text : List ℕ) : Type 0 where
  pub model : WrittenModel
  pub spelled : IsSpelled text_format text model

-- a text is no model's, and is refused at this place
pub record IsRefusedAt (text : List ℕ) (at : ℕ) : Type 0 where
  pub tokens : List Lexeme
  pub cut : tokens_of text ≡ Ok tokens
  pub unexpected : IsUnexpectedAt text tokens at

-- this for the tokens up to and with the first word `end`
pub record IsFrontRefusedAt (text : List ℕ) (at : ℕ) : Type 0 where
  pub tokens : List Lexeme
  pub cut : tokens_of text ≡ Ok tokens
  pub unexpected : IsUnexpectedAt text (front_to_end tokens) at

-- ---- the same, computed

abbrev pub value_taken : {A : Type 0} → Parse A → Option A
value_taken (Ok r) = Some r.0
value_taken (Err rest) = None

abbrev pub place_stuck : {A : Type 0} → List ℕ → Parse A → Option ℕ
place_stuck text (Ok r) = None
place_stuck text (Err rest) = Some (wrong_place text rest)

abbrev pub value_of_tokens : {A : Type 0} → LanguageFormat A → Result (List Lexeme) ℕ → Option A
value_of_tokens f (Ok tokens) = value_taken (and_next whole_read (language_reader f tokens))
value_of_tokens f (Err at) = None

-- the value that a text spells
abbrev pub read_as : {A : Type 0} → LanguageFormat A → List ℕ → Option A
read_as f text = value_of_tokens f (tokens_of text)

abbrev pub place_of_tokens : List ℕ → Result (List Lexeme) ℕ → Option ℕ
place_of_tokens text (Ok tokens) = place_stuck text (text_read tokens)
place_of_tokens text (Err at) = None

-- the place at which a text is refused
abbrev pub refused_at : List ℕ → Option ℕ
refused_at text = place_of_tokens text (tokens_of text)

abbrev pub front_of_tokens : Result (List Lexeme) ℕ → Result (List Lexeme) ℕ
front_of_tokens (Ok tokens) = Ok (front_to_end tokens)
front_of_tokens (Err at) = Err at

abbrev pub front_refused_at : List ℕ → Option ℕ
front_refused_at text = place_of_tokens text (front_of_tokens (tokens_of text))

abbrev pub deep_of_tokens : ℕ → Result (List Lexeme) ℕ → Option ℕ
deep_of_tokens limit (Ok tokens) = too_deep_at limit tokens
deep_of_tokens limit (Err at) = None

-- the first opening of a text that is one too many, by this limit
abbrev pub deep_in : ℕ → List ℕ → Option ℕ
deep_in limit text = deep_of_tokens limit (tokens_of text)

-- the same up to and with the first word `end`
abbrev pub deep_in_front : ℕ → List ℕ → Option ℕ
deep_in_front limit text = deep_of_tokens limit (front_of_tokens (tokens_of text))
