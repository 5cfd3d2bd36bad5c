use Rattle.std.proofs.Common.{◌≡◌, map, take}
use Rattle.model_core.specs.Code.Views.{graph_of}
use Rattle.reducer.specs.Inner.LaterRules.{name_at_place}
use Rattle.reducer.proofs.naming.names_at.Given as goal

abbrev pub invariant-loop-place : goal.invariant-loop-place
invariant-loop-place l = l.names.items ≡ map (name_at_place l.declared (graph_of l.model)) (take l.place-index l.places)
