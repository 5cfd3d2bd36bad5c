use Rattle.std.proofs.Common.{◌≡◌, map, drop}
use Rattle.std.specs.List.{list_any}
use Rattle.model_core.specs.Text.VersionNeeded.{is_large_array}
use Rattle.model_core.specs.Code.Views.{variable_of}
use Rattle.model_core.proofs.version.has_large_array.Given as goal

abbrev pub invariant-loop-var : goal.invariant-loop-var
invariant-loop-var l =
    list_any is_large_array (map variable_of (drop l.var-index l.vars))
    ≡ list_any is_large_array (map variable_of l.vars)
