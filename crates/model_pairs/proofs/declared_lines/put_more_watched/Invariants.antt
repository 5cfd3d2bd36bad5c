use Rattle.std.proofs.Common.{◌≡◌, ◌++◌, map, take}
use Rattle.model_core.specs.Text.Canonical.{after_commas, watched_name}
use Rattle.model_core.specs.Code.Views.{graph_of, watched_of}
use Rattle.model_pairs.proofs.declared_lines.put_more_watched.Given as goal

abbrev pub invariant-loop-next : goal.invariant-loop-next
invariant-loop-next l = l.out.items ≡ l.initial.out.items ++ after_commas (map (watched_name (graph_of l.model)) (map watched_of (take l.next-index l.watch)))
