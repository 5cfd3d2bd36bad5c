-- The rest of a text: reading it to its end, and where it stops to be one.
use Rattle.std.specs.Prelude.{◌≡◌, ℕ, List}
use Rattle.model_core.specs.declared.token.Word.TheVariants.{End}
use Rattle.model_core.specs.Text.Lexing.{Lexeme}
use Rattle.model_core.specs.Text.Format.{reserved}
use Rattle.text_laws.specs.FormatReader.{Parse, Parser, stuck, and_next, whole_read}
use Rattle.text_laws.specs.LanguageReader.{language_reader}
use Rattle.one_pass.specs.declared.not_read.NotRead.{NotRead}
use Rattle.one_pass.specs.declared.not_read.NotRead.TheVariants as reasons

-- the place of the word `end`, after which no token is left
abbrev pub end_read : Parser ℕ
end_read tokens = and_next whole_read (language_reader (reserved End) tokens)

-- the same, after what was read before it
abbrev pub to_end : {A : Type 0} → Parse A → Parse ℕ
to_end parse = and_next (λ x left. end_read left) parse

-- a reader that met an unexpected token left the tokens from the first that can't be at its place
abbrev pub LeavesStuck : {B : Type 0} → NotRead → List Lexeme → Parse B → Type 0
LeavesStuck e left parse = e ≡ reasons.Unexpected → parse ≡ stuck left
