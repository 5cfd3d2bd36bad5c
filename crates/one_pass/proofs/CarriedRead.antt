-- Values in parentheses, which may be left out.
use Rattle.std.proofs.Common.{◌≡◌, ℕ, true, false, List, [], length, Option, Some, None, refl}
use Rattle.model_core.specs.declared.model.Kind.{Kind}
use Rattle.model_core.specs.declared.token.Symbol.TheVariants.{OpenParenthesis}
use Rattle.model_core.specs.EventGraph as graph
use Rattle.model_core.specs.Text.Lexing.{Lexeme}
use Rattle.model_core.specs.Text.Format.{ASymbol}
use Rattle.model_core.specs.Text.Language.{values_format}
use Rattle.model_core.specs.Text.Numbering.{each_numbered, expression}
use Rattle.model_core.specs.Static.Meanings.{Meaning}
use Rattle.model_core.specs.Static.RuleTable.{value_count}
use Rattle.model_core.specs.Static.PartFaults.{values_faults}
use Rattle.text_laws.specs.FirstTokens.{begins_as}
use Rattle.static_laws.proofs.StaticTwins.RowTwins.{same_count}
use Rattle.static_laws.proofs.StaticTwins.Twins.{both_empty}
use Rattle.text_laws.proofs.ReadLoop.{begins-one}
use Rattle.one_pass.specs.Inner.ReadParts.{ReadSure}
use Rattle.one_pass.specs.Inner.ReadValues.{fitting_faults}
use Rattle.one_pass.specs.Inner.ReadCarried.{ReadGiven}
use Rattle.one_pass.proofs.FormatReads.{comes, absent}

module _ (means : List ℕ → Option Meaning) (kinds : List (Option Kind)) where
  -- values in parentheses
  pub some_given : (before after : List Lexeme) (xs : List graph.Expression) → begins_as (ASymbol OpenParenthesis) before ≡ true
      → ReadSure values_format means (fitting_faults means kinds) (λ d. each_numbered (expression d)) before after xs → ReadGiven means kinds before after xs
  unfolding values_format
  some_given before after xs begun r = record {
    written = Some r.written;
    read = comes values_format before after r.written (begins-one (ASymbol OpenParenthesis) before true begun) r.read;
    unbroken = r.unbroken;
    numbers = r.numbers;
  }

  -- no values, where no kind is taken
  pub none_given : (before : List Lexeme) → begins_as (ASymbol OpenParenthesis) before ≡ false → length kinds ≡ 0 → ReadGiven means kinds before before []
  unfolding values_format
  none_given before begun none = record {
    written = None;
    read = absent values_format before (begins-one (ASymbol OpenParenthesis) before false begun);
    unbroken = both_empty (value_count (length kinds) 0 0) (values_faults means kinds []) ((same_count (length kinds) 0 0).1 none) refl;
    numbers = λ d p. refl;
  }
