use Rattle.std.proofs.Common.{◌≡◌, ◌++◌, map, take}
use Rattle.std.specs.List.{flat_map}
use Rattle.model_core.specs.Code.Views.{graph_of, change_of}
use Rattle.describe.specs.Description.{change_sentence}
use Rattle.describe.proofs.changes.put_changes.Given as goal

abbrev pub invariant-loop-change : goal.invariant-loop-change
invariant-loop-change l = l.out.items ≡ l.initial.out.items ++ flat_map (change_sentence (graph_of l.model) l.name) (map change_of (take l.change-index l.changes))
