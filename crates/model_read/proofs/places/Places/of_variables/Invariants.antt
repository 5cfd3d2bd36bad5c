use Rattle.std.proofs.Common.{map, take}
use Rattle.model_core.specs.Code.Views.{variable_of}
use Rattle.model_read.specs.NamesPlaced.{HasPlaces, names_of_variables}
use Rattle.model_read.proofs.places.Places.of_variables.Given as goal

abbrev pub invariant-loop-place : goal.invariant-loop-place
invariant-loop-place l = HasPlaces (names_of_variables (map variable_of (take l.place l.vars))) l.places
