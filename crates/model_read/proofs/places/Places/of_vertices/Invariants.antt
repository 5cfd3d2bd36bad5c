use Rattle.std.proofs.Common.{map, take}
use Rattle.model_core.specs.Code.Views.{vertex_of}
use Rattle.model_read.specs.NamesPlaced.{HasPlaces, names_of_vertices}
use Rattle.model_read.proofs.places.Places.of_vertices.Given as goal

abbrev pub invariant-loop-place : goal.invariant-loop-place
invariant-loop-place l = HasPlaces (names_of_vertices (map vertex_of (take l.place l.vertices))) l.places
