use Rattle.std.proofs.Common.{map}
use Rattle.model_core.specs.Code.Views.{graph_of, watched_of}
use Rattle.model_pairs.specs.DeclaredApart.{watched_differ}
use Rattle.model_pairs.proofs.SideBySide.{SoughtBeside}
use Rattle.model_pairs.proofs.declarations.first_other_watched.Given as goal

abbrev pub invariant-loop-a : goal.invariant-loop-a
invariant-loop-a l = SoughtBeside (watched_differ (graph_of l.m) (graph_of l.m2)) watched_of (map watched_of l.m.watch) (map watched_of l.m2.watch) l.a-iterator
