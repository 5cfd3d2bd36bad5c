-- A token of each sort, and an expression of each level.
use Rattle.std.proofs.Common.{◌≡◌, List, [], ◌∷◌, refl}
use Rattle.std.specs.Prelude.{Some, pos}
use Rattle.model_core.specs.Text.Lexing.{Lexeme, LexemeKind, NameOf, Reserved, NumberOf, Mark}
use Rattle.model_core.specs.Text.Written.{WrittenExpression}
use Rattle.model_core.specs.Text.Expressions.{Level, Whole, Disjunction, Conjunction, Negation, Comparison, Sum, Product, Unary, Primary, of_number, level_format}
use Rattle.model_core.specs.Text.Format.{TokenSort, AName, ASpelled, ANumber, AWord, ASymbol, Format, by_rule, ByRule, Spells}
use Rattle.text_laws.specs.FormatReader.{took, rule_at, read_within, many_at, many_within, format_at}
use Rattle.text_laws.specs.LanguageReader.{level_lookahead}
use Rattle.text_laws.proofs.Formats.RuleLaws.{sound}
use Rattle.text_laws.proofs.Formats.Stopping.{IsOne, Sample, rule-framed, Viable, viable}

token_of : LexemeKind → Lexeme
token_of k = record { from = 0; to = 0; kind = k }

pub one : (s : TokenSort) → IsOne s
unfolding token_of
one AName = (token_of (NameOf []), refl)
one (ASpelled bytes) = (token_of (NameOf bytes), refl)
one ANumber = (token_of (NumberOf (Some (pos 0)) 0), refl)
one (AWord w) = (token_of (Reserved w), refl)
one (ASymbol s) = (token_of (Mark s), refl)

zero_token : List Lexeme
zero_token = token_of (NumberOf (Some (pos 0)) 0) ∷ []

the_zero : WrittenExpression
the_zero = of_number (record { value = Some (pos 0); at = 0 })

zero_read : (r : Level) → rule_at level_lookahead level_format r zero_token ≡ took the_zero []
unfolding rule_at read_within many_at many_within level_format level_lookahead zero_token the_zero token_of
zero_read Whole = refl
zero_read Disjunction = refl
zero_read Conjunction = refl
zero_read Negation = refl
zero_read Comparison = refl
zero_read Sum = refl
zero_read Product = refl
zero_read Unary = refl
zero_read Primary = refl

pub some : (r : Level) → Sample (by_rule level_format r)
some r =
    let d : by_rule level_format r zero_token the_zero [] = sound level_lookahead level_format (ByRule r) zero_token the_zero [] (zero_read r) in
    let a = rule-framed level_format r zero_token the_zero [] d in
    (a.0, the_zero, a.2)

-- where a reader of a format of the language stops, the tokens up to there begin something that is spelled
pub language-viable : {A : Type 0} (f : Format Level WrittenExpression A) → Viable (Spells level_format f) (format_at level_lookahead level_format f)
language-viable f = viable level_lookahead level_format one some f
