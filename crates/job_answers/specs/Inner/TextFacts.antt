-- The laws of texts, in one record.
use Rattle.std.specs.Prelude.{◌≡◌, ◌⊎◌, ℕ, List, Some, None}
use Rattle.sig_base.specs.declared.limits.TheConstants.{OPENINGS_MAX}
use Rattle.model_core.specs.EventGraph.{EventGraph}
use Rattle.model_core.specs.Text.Lexing.{Lexeme}
use Rattle.model_core.specs.Text.Written.{WrittenModel}
use Rattle.model_core.specs.Text.Language.{IsText}
use Rattle.model_core.specs.Text.FirstWrong.{IsUnexpectedAt}
use Rattle.model_core.specs.Text.Openings.{too_deep_at, HasFewOpenings}
use Rattle.model_core.specs.Text.ModelText.{SpellsText}
use Rattle.model_core.specs.Static.FaultOrder.{StaticFault}
use Rattle.model_core.specs.Static.ModelFaults.{IsFirstFault, first_fault, Accepted}

-- the facts that the layers below give
pub record TextFacts : Type 0 where
  pub one_model : (text : List ℕ) (m n : WrittenModel) → SpellsText text m → SpellsText text n → m ≡ n
  pub spelled_or_not : (text : List ℕ) (tokens : List Lexeme) → ((m : WrittenModel) × IsText tokens m) ⊎ ((at : ℕ) × IsUnexpectedAt text tokens at)
  pub one_place : (text : List ℕ) (tokens : List Lexeme) (i j : ℕ) → IsUnexpectedAt text tokens i → IsUnexpectedAt text tokens j → i ≡ j
  pub none_deep : (tokens : List Lexeme) → too_deep_at OPENINGS_MAX tokens ≡ None → HasFewOpenings OPENINGS_MAX tokens
  pub few_openings : (tokens : List Lexeme) → HasFewOpenings OPENINGS_MAX tokens → too_deep_at OPENINGS_MAX tokens ≡ None
  pub fault_is_first : (m : WrittenModel) (f : StaticFault) → first_fault m ≡ Some f → IsFirstFault m f.kind f.at
  pub first_is_fault : (m : WrittenModel) (f : StaticFault) → IsFirstFault m f.kind f.at → first_fault m ≡ Some f
  pub accepted : (m : WrittenModel) → first_fault m ≡ None → (g : EventGraph) × Accepted m g
  pub accepted_has_no_fault : (m : WrittenModel) → ((g : EventGraph) × Accepted m g) → first_fault m ≡ None
