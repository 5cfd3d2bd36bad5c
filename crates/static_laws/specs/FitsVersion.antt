-- Which models a text of a version can write: all of them where it says that it is of version 2, and else those that pass no limit of version 1 and draw no delay.
use Rattle.std.specs.Prelude.{◌≡◌, pos, false, ◌⊎◌, Option, Some, None}
use Rattle.model_core.specs.EventGraph.{EventGraph}
use Rattle.model_core.specs.Text.Written.{WrittenNumber}
use Rattle.model_core.specs.Text.VersionNeeded.{needs_version_two}

-- what a text says of its version, if anything, is a version that can write the model
abbrev pub FitsVersion : Option WrittenNumber → EventGraph → Type 0
FitsVersion None g = needs_version_two g ≡ false
FitsVersion (Some n) g = ((n.value ≡ Some (pos 1)) × (needs_version_two g ≡ false)) ⊎ (n.value ≡ Some (pos 2))
