-- A target that was read, from its name and its index.
use Rattle.std.proofs.Common.{◌≡◌, ℕ, true, false, List, [], Option, Some, None, refl}
use Rattle.model_core.specs.declared.model.Kind.{Kind}
use Rattle.model_core.specs.declared.model.Kind.TheVariants as kinds
use Rattle.model_core.specs.declared.token.Symbol.TheVariants as symbols
use Rattle.model_core.specs.EventGraph as graph
use Rattle.model_core.specs.Text.Lexing.{Lexeme}
use Rattle.model_core.specs.Text.Written.{WrittenName}
use Rattle.model_core.specs.Text.Format.{ASymbol, any_name}
use Rattle.model_core.specs.Text.Expressions.{index_format}
use Rattle.model_core.specs.Text.Language.{target_written, target_format}
use Rattle.model_core.specs.Text.Numbering.{declared_place}
use Rattle.model_core.specs.Static.Meanings.{Meaning}
use Rattle.model_core.specs.Static.Kinds.{kinds_differ, kind_in_role}
use Rattle.model_core.specs.Static.PartFaults.{use_faults, operand_faults}
use Rattle.text_laws.specs.FirstTokens.{begins_as}
use Rattle.text_laws.specs.FormatReader.{took}
use Rattle.text_laws.specs.LanguageReader.{language_reader}
use Rattle.static_laws.proofs.StaticTwins.Twins.{both_empty}
use Rattle.static_laws.specs.Checked.{NumberedAs}
use Rattle.static_laws.specs.Roles.{variable_role}
use Rattle.one_pass.specs.Inner.ReadOperands.{ReadOperand}
use Rattle.one_pass.specs.Inner.ReadTargets.{ReadTarget}
use Rattle.one_pass.proofs.SureOperands.{fitting}

module _ (means : List ℕ → Option Meaning) where
  pub scalar_read : (n : WrittenName) (k : ℕ) (kind : Option Kind) (before after : List Lexeme) → language_reader any_name before ≡ took n after → begins_as (ASymbol symbols.OpenBracket) after ≡ false
      → use_faults means (variable_role false) n ≡ [] → NumberedAs means (λ d. declared_place n.name d.variables) k → kind ≡ kind_in_role (variable_role false) (means n.name)
      → ReadTarget means (language_reader target_format before) after (record { variable = k; index = None }) kind
  unfolding target_format
  scalar_read n k kind before after named ends known numbers is = record {
    written = target_written n None;
    is_read = rw (named, ends) refl;
    target = record { unbroken = both_empty (use_faults means (variable_role false) n) [] known refl; numbers = λ d p. rw (numbers d p) refl; has_kind = is };
  }

  pub cell_read : (n : WrittenName) (k : ℕ) (kind found : Option Kind) (x : graph.Expression) (before between after : List Lexeme) → language_reader any_name before ≡ took n between → begins_as (ASymbol symbols.OpenBracket) between ≡ true
      → use_faults means (variable_role true) n ≡ [] → NumberedAs means (λ d. declared_place n.name d.variables) k → kind ≡ kind_in_role (variable_role true) (means n.name)
      → ReadOperand means (language_reader index_format between) after x found → kinds_differ (Some kinds.Range) found ≡ false
      → ReadTarget means (language_reader target_format before) after (record { variable = k; index = Some x }) kind
  unfolding target_format
  cell_read n k kind found x before between after named goes_on known numbers is index fits = record {
    written = target_written n (Some index.written);
    is_read = rw (named, goes_on, index.is_read) refl;
    target = record {
      unbroken = both_empty (use_faults means (variable_role true) n) (operand_faults means (Some kinds.Range) index.written) known (fitting means index.written x found (Some kinds.Range) index.operand fits);
      numbers = λ d p. rw (numbers d p, index.operand.numbers d p) refl;
      has_kind = is;
    };
  }
