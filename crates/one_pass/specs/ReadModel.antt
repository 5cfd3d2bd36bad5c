-- The promises about a model that was read from tokens, about its first fault, and about tokens that are no text.
use Rattle.std.specs.Prelude.{◌≡◌, ℕ, List, Some, None}
use Rattle.sig_base.specs.declared.limits.TheConstants.{OPENINGS_MAX}
use Rattle.model_core.specs.declared.static_kind.StaticKind.{StaticKind}
use Rattle.model_core.specs.EventGraph.{EventGraph}
use Rattle.model_core.specs.Text.Lexing.{Lexeme}
use Rattle.model_core.specs.Text.Written.{WrittenModel}
use Rattle.model_core.specs.Text.Language.{IsText}
use Rattle.model_core.specs.Text.FirstWrong.{IsUnexpectedAt}
use Rattle.model_core.specs.Text.Openings.{too_deep_at, HasFewOpenings}
use Rattle.model_core.specs.Static.ModelFaults.{Accepted, IsFirstFault}
use Rattle.one_pass.specs.declared.one_pass_error.OnePassError.{OnePassError}
use Rattle.one_pass.specs.declared.one_pass_error.OnePassError.TheVariants as errors

-- the tokens are the text of a model that keeps every static rule
pub record AreAccepted (tokens : List Lexeme) (g : EventGraph) : Type 0 where
  pub written : WrittenModel
  pub spelled : IsText tokens written
  pub few_openings : HasFewOpenings OPENINGS_MAX tokens
  pub accepted : Accepted written g

-- the tokens are the text of a model, of which this is the first fault
pub record HaveFirstFault (tokens : List Lexeme) (kind : StaticKind) (at : ℕ) : Type 0 where
  pub written : WrittenModel
  pub spelled : IsText tokens written
  pub few_openings : HasFewOpenings OPENINGS_MAX tokens
  pub is_first : IsFirstFault written kind at

-- what an error says of the tokens of a text
abbrev pub AreRefused : List ℕ → List Lexeme → OnePassError → Type 0
AreRefused text tokens (errors.Unexpected at) = (too_deep_at OPENINGS_MAX tokens ≡ None) × IsUnexpectedAt text tokens at
AreRefused text tokens (errors.TooDeep at) = too_deep_at OPENINGS_MAX tokens ≡ Some at
AreRefused text tokens (errors.Fault kind at) = HaveFirstFault tokens kind at
AreRefused text tokens errors.Unsure = Unit {0}
AreRefused text tokens errors.NoMemory = Unit {0}
