-- The check of a part: it finds the part's first fault, and where there is none the part is numbered.
use Rattle.std.specs.Prelude.{◌≡◌, ℕ, List, [], Option, Some}
use Rattle.model_core.specs.Text.Numbering.{Declared}
use Rattle.model_core.specs.Static.FaultOrder.{StaticFault, earliest_fault}
use Rattle.model_core.specs.Static.Meanings.{Meaning}
use Rattle.static_laws.specs.PlacedMeanings.{PlacedAs}

-- the first of these faults is found, and where there is none something holds
pub record Checked (before after : Option StaticFault) (faults : List StaticFault) (Holds : Type 0) : Type 0 where
  pub earliest : after ≡ earliest_fault before faults
  pub unbroken : faults ≡ [] → Holds

-- among declarations to which names that mean this belong, the part has this number
abbrev pub NumberedAs : {A : Type 0} → (List ℕ → Option Meaning) → (Declared → Option A) → A → Type 0
NumberedAs means number part = (d : Declared) → PlacedAs means d → number d ≡ Some part

-- the check of a part in which names mean this
abbrev pub CheckedPart : {A : Type 0} → (List ℕ → Option Meaning) → Option StaticFault → Option StaticFault → List StaticFault → (Declared → Option A) → A → Type 0
CheckedPart means before after faults number part = Checked before after faults (NumberedAs means number part)

-- the check of a part without names
abbrev pub CheckedPlain : {A : Type 0} → Option StaticFault → Option StaticFault → List StaticFault → Option A → A → Type 0
CheckedPlain before after faults number part = Checked before after faults (number ≡ Some part)
