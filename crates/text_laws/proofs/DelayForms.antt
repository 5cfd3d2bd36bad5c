-- The word `draw` distinguishes a drawn delay from an expression: no expression begins with it.
use Rattle.std.proofs.Common.{◌≡◌, Bool, true, false, List, [], ◌∷◌, refl, ◌∙◌, arith}
use Rattle.std.proofs.lemmas.Bool.{or_parts}
use Rattle.model_core.specs.declared.token.Word.TheVariants as words
use Rattle.model_core.specs.declared.token.Symbol.TheVariants as symbols
use Rattle.model_core.specs.Text.Lexing.{Lexeme}
use Rattle.model_core.specs.Text.Format.{TokenSort, AName, ANumber, AWord, ASymbol, Yields, reserved, ◌<*>◌}
use Rattle.model_core.specs.Text.Written.{WrittenSource, WrittenDelay, Fixed, Drawn}
use Rattle.model_core.specs.Text.Expressions.{LanguageFormat, Whole, Unary, Primary, level_format, expression_format}
use Rattle.model_core.specs.Text.Language.{source_format, delay_format}
use Rattle.text_laws.specs.FirstTokens.{subset, begins_as, begins_among}
use Rattle.text_laws.specs.FormatReader.{stuck, single_at}
use Rattle.text_laws.specs.LanguageReader.{level_lookahead, primary_first, level_firsts, language_reader}
use Rattle.text_laws.proofs.Formats.TokenSorts.{begins-apart, stops-subset}
use Rattle.text_laws.proofs.OperandLevels.{of_level, level-is, from-unary}

-- a delay that an expression gives, and a drawn one
abbrev pub fixed_format : LanguageFormat WrittenDelay
fixed_format = Yields (λ delay. Fixed delay) <*> expression_format

abbrev pub drawn_format : LanguageFormat WrittenDelay
drawn_format = Yields (λ at (source : WrittenSource). Drawn at source.stream source.choice) <*> reserved words.Draw <*> source_format

-- ---- no expression begins so

-- the first token is of none of these sorts, and so not of this one
not_first : (s : TokenSort) (sorts : List TokenSort) (tokens : List Lexeme) → subset (s ∷ []) sorts ≡ true → begins_among sorts tokens ≡ false → begins_as s tokens ≡ false
not_first s sorts tokens a e = (or_parts (begins_as s tokens) false (stops-subset (s ∷ []) sorts tokens a e)).0

token-stuck : {A : Type 0} (s : TokenSort) (f : Lexeme → A) (tokens : List Lexeme) → begins_as s tokens ≡ false → single_at s f tokens ≡ stuck tokens
token-stuck s f [] e = refl
token-stuck s f (t ∷ tokens) e = rw e refl

no_primary : (tokens : List Lexeme) → begins_among primary_first tokens ≡ false → of_level Primary tokens ≡ stuck tokens
unfolding level_format
no_primary tokens e =
    let none : (s : TokenSort) → subset (s ∷ []) primary_first ≡ true → begins_as s tokens ≡ false = λ s a. not_first s primary_first tokens a e in
    level-is Primary tokens
    ∙ rw (
      none ANumber refl,
      none (AWord words.True) refl,
      none (AWord words.False) refl,
      none (AWord words.Clk) refl,
      none AName refl,
      none (ASymbol symbols.OpenParenthesis) refl,
      none (AWord words.Min) refl,
      token-stuck (AWord words.Max) (λ t. t.from) tokens (none (AWord words.Max) refl),
    ) refl

no_expression : (tokens : List Lexeme) → begins_among (level_firsts Whole) tokens ≡ false → language_reader expression_format tokens ≡ stuck tokens
unfolding level_format
no_expression tokens e =
    let none : (s : TokenSort) → subset (s ∷ []) (level_firsts Whole) ≡ true → begins_as s tokens ≡ false = λ s a. not_first s (level_firsts Whole) tokens a e in
    let unary : of_level Unary tokens ≡ stuck tokens = level-is Unary tokens ∙ rw (none (ASymbol symbols.Minus) refl) (no_primary tokens (stops-subset primary_first (level_firsts Whole) tokens refl e)) in
    level-is Whole tokens ∙ rw (none (AWord words.If) refl) (from-unary 5 tokens (omega arith) (λ h. none (AWord words.Not) refl) ∙ rw unary refl)

-- ---- the two forms

-- after the word a delay is drawn
pub drawn_form : (tokens : List Lexeme) → begins_as (AWord words.Draw) tokens ≡ true → language_reader delay_format tokens ≡ language_reader drawn_format tokens
unfolding delay_format level_lookahead
drawn_form tokens e = rw (begins-apart (level_firsts Whole) (AWord words.Draw ∷ []) tokens refl (rw e refl)) refl

-- without it an expression gives the delay
pub fixed_form : (tokens : List Lexeme) → begins_as (AWord words.Draw) tokens ≡ false → language_reader delay_format tokens ≡ language_reader fixed_format tokens
unfolding delay_format level_lookahead
fixed_form tokens e = go (begins_among (level_firsts Whole) tokens) refl
  where
    go : (b : Bool) → begins_among (level_firsts Whole) tokens ≡ b → language_reader delay_format tokens ≡ language_reader fixed_format tokens
    go true begun = rw begun refl
    go false begun = rw (begun, no_expression tokens begun, token-stuck (AWord words.Draw) (λ t. t.from) tokens e) refl
