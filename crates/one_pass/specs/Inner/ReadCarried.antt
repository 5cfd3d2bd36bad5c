-- What an edge carries and to which vertex, where that was read and checked at once.
use Rattle.std.specs.Prelude.{◌≡◌, ℕ, List, [], Option, Some}
use Rattle.model_core.specs.declared.model.Kind.{Kind}
use Rattle.model_core.specs.EventGraph as graph
use Rattle.model_core.specs.Text.Lexing.{Lexeme}
use Rattle.model_core.specs.Text.Format.{any_name, maybe}
use Rattle.model_core.specs.Text.Written.{WrittenName}
use Rattle.model_core.specs.Text.Language.{values_format}
use Rattle.model_core.specs.Text.Numbering.{declared_place, each_numbered, expression, written_or}
use Rattle.model_core.specs.Static.Meanings.{Meaning, MeansVertex, AsVertex}
use Rattle.model_core.specs.Static.PartFaults.{written_items, use_faults, target_takes}
use Rattle.text_laws.specs.FormatReader.{took}
use Rattle.text_laws.specs.LanguageReader.{language_reader}
use Rattle.static_laws.specs.Checked.{NumberedAs}
use Rattle.one_pass.specs.Inner.ReadParts.{ReadSure}
use Rattle.one_pass.specs.Inner.ReadValues.{fitting_faults}

module _ (means : List ℕ → Option Meaning) where
  -- values that may be left out, where these kinds are taken
  abbrev pub ReadGiven : List (Option Kind) → List Lexeme → List Lexeme → List graph.Expression → Type 0
  ReadGiven kinds before after xs =
      ReadSure (maybe values_format) means (λ vs. fitting_faults means kinds (written_items vs)) (λ d. written_or (each_numbered (expression d)) []) before after xs

  -- a name that is used as the vertex of this number
  pub record IsVertex (n : WrittenName) (k : ℕ) : Type 0 where
    pub unbroken : use_faults means AsVertex n ≡ []
    pub numbers : NumberedAs means (λ d. declared_place n.name d.vertices) k
    pub meant : means n.name ≡ Some (MeansVertex k)

  -- the name of a vertex, and then values of the kinds that it takes
  pub record ReadCarried (taken : List (List (Option Kind))) (before after : List Lexeme) (k : ℕ) (xs : List graph.Expression) : Type 0 where
    pub name : WrittenName
    pub kinds : List (Option Kind)
    pub between : List Lexeme
    pub named : language_reader any_name before ≡ took name between
    pub vertex : IsVertex name k
    pub takes : target_takes means taken (means name.name) ≡ Some kinds
    pub given : ReadGiven kinds between after xs
