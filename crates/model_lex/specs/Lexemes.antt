-- The tokens of a text, as plain data.
use Rattle.std.specs.Prelude.{List, map}
use Rattle.model_core.specs.Text.Lexing.{Lexeme}
use Rattle.model_core.specs.Code.TokenViews.{lexeme_of}
use Rattle.model_lex.specs.declared.token_list.Tokens.{Tokens}

-- what the tokens represent, in their text
abbrev pub lexemes : Tokens → List Lexeme
lexemes t = map (lexeme_of t.text.now) t.list
