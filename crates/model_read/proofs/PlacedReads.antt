-- A call's result, with the place of the token that it left, names where it stopped.
use Rattle.std.proofs.Common.{◌≡◌, ℕ, List, refl, subst, sym}
use Rattle.std.specs.Prelude.{Result, Ok, Err}
use Rattle.model_core.specs.Text.Lexing.{Lexeme}
use Rattle.model_core.specs.Text.FirstWrong.{wrong_place}
use Rattle.text_laws.specs.FormatReader.{Parse, took, stuck}
use Rattle.model_lex.specs.declared.parse_error.ParseError.{ParseError}
use Rattle.model_lex.specs.declared.parse_error.ParseError.TheVariants as errors
use Rattle.model_read.specs.declared.stop.Stop.{Stop}
use Rattle.model_read.specs.declared.stop.Stop.TheVariants as stops
use Rattle.model_read.specs.ReadCalls.{Returned, placed_at}

-- Seen by view, the result is what was taken, or the place is that of the first token that the call left.
abbrev pub ReturnedPlaced : {A B : Type 0} → (A → B) → List ℕ → Result A ParseError → List Lexeme → Parse B → Type 0
ReturnedPlaced view text (Ok x) left parse = parse ≡ took (view x) left
ReturnedPlaced view text (Err (errors.Unexpected at)) left parse = (parse ≡ stuck left) × (wrong_place text left ≡ at)
ReturnedPlaced view text (Err (errors.TooDeep at)) left parse = ⊥
ReturnedPlaced view text (Err errors.NoMemory) left parse = Unit {0}

returned_at : {A B : Type 0} (view : A → B) (text : List ℕ) (read : Result A Stop) (left : List Lexeme) (parse : Parse B) → Returned view read left parse → ReturnedPlaced view text (placed_at (wrong_place text left) read) left parse
returned_at view text (Ok x) left parse e = e
returned_at view text (Err stops.Unexpected) left parse e = (e refl, refl)
returned_at view text (Err stops.NoMemory) left parse e = tt

pub placed-names : {A B : Type 0} (view : A → B) (text : List ℕ) (read : Result A Stop) (left : List Lexeme) (parse : Parse B) (result : Result A ParseError) → result ≡ placed_at (wrong_place text left) read → Returned view read left parse → ReturnedPlaced view text result left parse
placed-names view text read left parse result is e = subst (λ r. ReturnedPlaced view text r left parse) (sym is) (returned_at view text read left parse e)
