-- Which operators of a level the first token is, for each level.
use Rattle.std.proofs.Common.{◌≡◌, ℕ, Bool, false, List, ◌∷◌, Some, None, refl}
use Rattle.std.specs.Prelude.{Option, nat_eq, if◌then◌else◌}
use Rattle.model_core.specs.declared.token.Word.TheVariants as words
use Rattle.model_core.specs.declared.token.Symbol.TheVariants as symbols
use Rattle.model_core.specs.EventGraph.{Operator}
use Rattle.model_core.specs.Text.Lexing.{Lexeme, LexemeKind, NameOf, Reserved, NumberOf, Mark}
use Rattle.text_laws.specs.FirstTokens.{first_sorts, begins_among}
use Rattle.text_laws.specs.FormatReader.{Parse, took, stuck}
use Rattle.text_laws.specs.LanguageReader.{level_lookahead, language_reader}
use Rattle.text_laws.specs.Ladder.{infix_of_kind, operators_of}

abbrev pub is_at : ℕ → Option (ℕ × Operator) → Bool
is_at k None = false
is_at k (Some i) = nat_eq k i.0

abbrev pub taken : ℕ → Option (ℕ × Operator) → Lexeme → List Lexeme → Parse Operator
taken k None t tokens = stuck (t ∷ tokens)
taken k (Some i) t tokens = if nat_eq k i.0 then took i.1 tokens else stuck (t ∷ tokens)

abbrev pub AtFirst : ℕ → Lexeme → List Lexeme → Option (ℕ × Operator) → Type 0
AtFirst k t tokens found = (begins_among (first_sorts level_lookahead (operators_of k)) (t ∷ tokens) ≡ is_at k found) × (language_reader (operators_of k) (t ∷ tokens) ≡ taken k found t tokens)

abbrev AtEach : Lexeme → List Lexeme → Option (ℕ × Operator) → Type 0
AtEach t tokens found = AtFirst 0 t tokens found × AtFirst 1 t tokens found × AtFirst 2 t tokens found × AtFirst 3 t tokens found × AtFirst 4 t tokens found

pub at_each : (kind : LexemeKind) (t : Lexeme) (tokens : List Lexeme) → t.kind ≡ kind → AtEach t tokens (infix_of_kind kind)
at_each (Mark symbols.Times) t tokens e = rw e ((refl, refl), (refl, refl), (refl, refl), (refl, refl), (refl, refl))
at_each (Mark _) t tokens e = rw e ((refl, refl), (refl, refl), (refl, refl), (refl, refl), (refl, refl))
at_each (Reserved words.And) t tokens e = rw e ((refl, refl), (refl, refl), (refl, refl), (refl, refl), (refl, refl))
at_each (Reserved _) t tokens e = rw e ((refl, refl), (refl, refl), (refl, refl), (refl, refl), (refl, refl))
at_each (NumberOf value exact) t tokens e = rw e ((refl, refl), (refl, refl), (refl, refl), (refl, refl), (refl, refl))
at_each (NameOf bytes) t tokens e = rw e ((refl, refl), (refl, refl), (refl, refl), (refl, refl), (refl, refl))
