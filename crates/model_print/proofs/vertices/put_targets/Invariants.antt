use Rattle.std.proofs.Common.{map, take}
use Rattle.model_core.specs.Text.Canonical.{after_commas, location_text}
use Rattle.model_core.specs.Code.Views.{location_of, graph_of}
use Rattle.model_print.proofs.vertices.put_targets.Given as goal

abbrev pub invariant-loop-target : goal.invariant-loop-target
invariant-loop-target g l = g.P.Pen.adds l.initial.out l.out (after_commas (map (location_text (graph_of l.model)) (map location_of (take l.target-index l.rest))))
