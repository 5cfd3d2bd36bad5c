-- In which role a variable is used, and which vertex a name means.
use Rattle.std.specs.Prelude.{ℕ, Bool, true, false, Option, Some, None}
use Rattle.model_core.specs.Static.Meanings.{Meaning, MeansVertex, Role, AsScalar, AsArray}

-- the role of a variable with an index, or without one
abbrev pub variable_role : Bool → Role
variable_role true = AsArray
variable_role false = AsScalar

-- the place of the vertex that is meant
abbrev pub vertex_meant : Option Meaning → Option ℕ
vertex_meant (Some (MeansVertex k)) = Some k
vertex_meant meaning = None
