use Rattle.std.proofs.Common.{◌≡◌, ◌++◌, map, take}
use Rattle.model_core.specs.Text.Canonical.{after_commas, watched_name}
use Rattle.model_core.specs.Code.Views.{graph_of, watched_of}
use Rattle.describe.proofs.declarations.put_later_watched.Given as goal

abbrev pub invariant-loop-watched : goal.invariant-loop-watched
invariant-loop-watched l = l.out.items ≡ l.initial.out.items ++ after_commas (map (watched_name (graph_of l.model)) (map watched_of (take l.watched-index l.watch)))
