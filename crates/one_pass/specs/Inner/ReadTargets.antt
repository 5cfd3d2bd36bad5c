-- A target that was read and checked at once.
use Rattle.std.specs.Prelude.{◌≡◌, ℕ, List, [], Option}
use Rattle.model_core.specs.declared.model.Kind.{Kind}
use Rattle.model_core.specs.EventGraph as graph
use Rattle.model_core.specs.Text.Lexing.{Lexeme}
use Rattle.model_core.specs.Text.Written.{WrittenTarget}
use Rattle.model_core.specs.Text.Numbering.{location}
use Rattle.model_core.specs.Static.Meanings.{Meaning}
use Rattle.model_core.specs.Static.PartFaults.{target_kind, target_faults}
use Rattle.text_laws.specs.FormatReader.{Parse, took}
use Rattle.static_laws.specs.Checked.{NumberedAs}

-- where names mean this, a target without faults, of this number and this kind
pub record IsTarget (means : List ℕ → Option Meaning) (t : WrittenTarget) (x : graph.Location) (kind : Option Kind) : Type 0 where
  pub unbroken : target_faults means t ≡ []
  pub numbers : NumberedAs means (λ d. location d t) x
  pub has_kind : kind ≡ target_kind means t

-- what is read is such a target
pub record ReadTarget (means : List ℕ → Option Meaning) (read : Parse WrittenTarget) (after : List Lexeme) (x : graph.Location) (kind : Option Kind) : Type 0 where
  pub written : WrittenTarget
  pub is_read : read ≡ took written after
  pub target : IsTarget means written x kind
