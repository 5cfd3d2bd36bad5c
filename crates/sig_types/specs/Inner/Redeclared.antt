-- The names that are declared again after other declarations.
use Rattle.std.specs.Prelude.{List, [], ◌∷◌, ◌++◌, is_some}
use Rattle.model_core.specs.declared.static_kind.StaticKind.TheVariants as rules
use Rattle.model_core.specs.Static.FaultOrder.{StaticFault, fault_where}
use Rattle.model_core.specs.Static.Meanings.{Declaration, meaning_of}

-- names that are declared again
abbrev pub redeclared : List Declaration → List Declaration → List StaticFault
redeclared earlier [] = []
redeclared earlier (d ∷ ds) = fault_where (is_some (meaning_of earlier d.name.name)) rules.DuplicateName d.name.at ++ redeclared (earlier ++ d ∷ []) ds
