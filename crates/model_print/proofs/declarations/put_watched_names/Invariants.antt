use Rattle.std.proofs.Common.{map, take}
use Rattle.model_core.specs.Text.Canonical.{after_commas, watched_name}
use Rattle.model_core.specs.Code.Views.{watched_of, graph_of}
use Rattle.model_print.proofs.declarations.put_watched_names.Given as goal

abbrev pub invariant-loop-next : goal.invariant-loop-next
invariant-loop-next g l = g.P.Pen.adds l.initial.out l.out (after_commas (map (watched_name (graph_of l.model)) (map watched_of (take l.next-index l.rest))))
