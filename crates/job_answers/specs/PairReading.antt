-- Which texts read as two models, one after the other.
use Rattle.std.specs.Prelude.{◌≡◌, ℕ, ◌≤◌, List, [], length, Ok}
use Rattle.sig_base.specs.declared.limits.TheConstants.{DOCUMENT_MAX}
use Rattle.model_core.specs.EventGraph.{EventGraph}
use Rattle.model_core.specs.Text.Lexing.{Lexeme, tokens_of}
use Rattle.model_core.specs.Text.Written.{WrittenModel}
use Rattle.model_core.specs.Text.DocumentText.{BeginsWithModel}
use Rattle.model_core.specs.Static.ModelFaults.{Accepted}

-- The tokens of the text are two model texts, which are written so, and none is left behind them.
pub record SpellsPair (text : List ℕ) (first second : WrittenModel) : Type 0 where
  pub tokens : List Lexeme
  pub cut : tokens_of text ≡ Ok tokens
  pub after_first : List Lexeme
  pub begins : BeginsWithModel tokens first after_first
  pub ends : BeginsWithModel after_first second []

-- A document within its limit spells two written models that are accepted as these models.
pub record ReadsPair (text : List ℕ) (g h : EventGraph) : Type 0 where
  pub fits : length text ≤ DOCUMENT_MAX
  pub first : WrittenModel
  pub second : WrittenModel
  pub spells : SpellsPair text first second
  pub first_accepted : Accepted first g
  pub second_accepted : Accepted second h
