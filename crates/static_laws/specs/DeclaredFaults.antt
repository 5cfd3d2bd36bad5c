-- The faults of what a model declares: its name, the names that are declared twice, and the lists that are too long.
use Rattle.std.specs.Prelude.{List, [], ◌++◌, map}
use Rattle.model_core.specs.Text.Written.{WrittenModel}
use Rattle.model_core.specs.Static.FaultOrder.{StaticFault}
use Rattle.model_core.specs.Static.Meanings.{declared_name, declarations}
use Rattle.model_core.specs.Static.RuleTable.{name_too_long}
use Rattle.model_core.specs.Static.PartFaults.{repeated_names}
use Rattle.model_core.specs.Static.ModelFaults.{faults_of_counts}

-- the faults that are found before the declared parts are checked
abbrev pub faults_of_declared : WrittenModel → List StaticFault
faults_of_declared m = name_too_long m.name ++ repeated_names [] (map declared_name (declarations m)) ++ faults_of_counts m
