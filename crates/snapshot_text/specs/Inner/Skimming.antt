-- The tokens that are left after a format that is passed over, without its value.
use Rattle.std.specs.Prelude.{◌≡◌, if◌then◌else◌, List, Result, Ok, Err}
use Rattle.model_core.specs.Text.Lexing.{Lexeme}
use Rattle.model_core.specs.Text.Format.{Yields, Single, Apply, Either, Many, ByRule}
use Rattle.model_core.specs.Text.Expressions.{LanguageFormat}
use Rattle.text_laws.specs.FirstTokens.{first_sorts, begins_among}
use Rattle.text_laws.specs.FormatReader.{Parse, Parser, took, stuck, and_next, single_at, whole_read}
use Rattle.text_laws.specs.LanguageReader.{level_lookahead, language_reader}
use Rattle.model_read.specs.declared.stop.Stop.{Stop}

-- a result of reading, without its value
abbrev pub skimmed : {A : Type 0} → Parse A → Parse (Unit {0})
skimmed (Ok r) = took tt r.1
skimmed (Err rest) = stuck rest

-- the same, one part of the format after the other
abbrev pub skims : {A : Type 0} → LanguageFormat A → Parser (Unit {0})
skims (Yields x) tokens = took tt tokens
skims (Single s f) tokens = skimmed (single_at s f tokens)
skims (Apply p q) tokens = and_next (λ u left. skims q left) (skims p tokens)
skims (Either p q) tokens = if begins_among (first_sorts level_lookahead p) tokens then skims p tokens else skims q tokens
skims (Many p) tokens = skimmed (language_reader (Many p) tokens)
skims (ByRule r) tokens = skimmed (language_reader (ByRule r) tokens)

-- this, where no token is left after it
abbrev pub skims_whole : {A : Type 0} → LanguageFormat A → Parser (Unit {0})
skims_whole f tokens = and_next whole_read (skims f tokens)

-- A call that passes over tokens returned this: it left the same tokens. It stops for no other reason.
abbrev pub Passed : Result (Unit {0}) Stop → List Lexeme → Parse (Unit {0}) → Type 0
Passed (Ok u) left parse = parse ≡ took tt left
Passed (Err e) left parse = parse ≡ stuck left
