-- Parts of rules that have a function of their own.
use Rattle.model_core.specs.declared.token.Word.TheVariants as words
use Rattle.model_core.specs.declared.token.Symbol.TheVariants as symbols
use Rattle.model_core.specs.Text.Written.{WrittenSource, WrittenChange, Set, Draw}
use Rattle.model_core.specs.Text.Format.{Yields, reserved, mark, ◌<*>◌, ◌<*◌, separated}
use Rattle.model_core.specs.Text.Expressions.{LanguageFormat, expression_format}
use Rattle.model_core.specs.Text.Language.{target_format, source_format}

-- a change that computes values
unfoldable pub set_format : LanguageFormat WrittenChange
set_format =
    Yields (λ at targets values. Set at targets values)
    <*> reserved words.Set <*> separated target_format <* mark symbols.Becomes <*> separated expression_format <* mark symbols.Semicolon

-- a change that draws a value
unfoldable pub draw_format : LanguageFormat WrittenChange
draw_format =
    Yields (λ at target (source : WrittenSource). Draw at target source.stream source.choice)
    <*> reserved words.Draw <*> target_format <*> source_format <* mark symbols.Semicolon
