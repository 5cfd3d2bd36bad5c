-- Names that mean what is declared at the places that they mean.
use Rattle.std.specs.Prelude.{◌≡◌, ℕ, Bool, List, Option, Some, None}
use Rattle.model_core.specs.declared.model.Kind.{Kind}
use Rattle.model_core.specs.Text.Numbering.{declared_place, Declared}
use Rattle.model_core.specs.Static.Meanings.{Meaning, MeansVariable, MeansTable, MeansVertex}

-- names that mean this are declared at the places that they mean, and what means a vertex isn't declared as a variable
pub record PlacedAs (means : List ℕ → Option Meaning) (d : Declared) : Type 0 where
  pub variable : (name : List ℕ) (k : ℕ) (kind : Kind) (array : Bool) → means name ≡ Some (MeansVariable k kind array) → declared_place name d.variables ≡ Some k
  pub table : (name : List ℕ) (k : ℕ) → means name ≡ Some (MeansTable k) → declared_place name d.tables ≡ Some k
  pub vertex : (name : List ℕ) (k : ℕ) → means name ≡ Some (MeansVertex k) → declared_place name d.vertices ≡ Some k
  pub no_variable : (name : List ℕ) (k : ℕ) → means name ≡ Some (MeansVertex k) → declared_place name d.variables ≡ None
