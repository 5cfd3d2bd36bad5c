-- The results of a call that reads.
use Rattle.std.specs.Prelude.{◌≡◌, ℕ, List, Result, Ok, Err}
use Rattle.model_core.specs.Text.Lexing.{Lexeme}
use Rattle.text_laws.specs.FormatReader.{Parse, took, stuck}
use Rattle.model_lex.specs.declared.parse_error.ParseError.{ParseError}
use Rattle.model_lex.specs.declared.parse_error.ParseError.TheVariants as errors
use Rattle.model_read.specs.declared.stop.Stop.{Stop}
use Rattle.model_read.specs.declared.stop.Stop.TheVariants as stops

-- a call that stopped left the tokens from the first that can't be at its place, unless memory ran out
abbrev pub Stops : {B : Type 0} → Stop → List Lexeme → Parse B → Type 0
Stops e left parse = e ≡ stops.Unexpected → parse ≡ stuck left

-- A call's result, seen by view, is what was taken, and the call left the same tokens.
abbrev pub Returned : {A B : Type 0} → (A → B) → Result A Stop → List Lexeme → Parse B → Type 0
Returned view (Ok x) left parse = parse ≡ took (view x) left
Returned view (Err e) left parse = Stops e left parse

-- what was read, or why not, with the place of the token that was left
abbrev pub placed_at : {A : Type 0} → ℕ → Result A Stop → Result A ParseError
placed_at at (Ok x) = Ok x
placed_at at (Err stops.Unexpected) = Err (errors.Unexpected at)
placed_at at (Err stops.NoMemory) = Err errors.NoMemory
