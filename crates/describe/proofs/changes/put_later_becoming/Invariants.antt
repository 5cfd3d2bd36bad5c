use Rattle.std.proofs.Common.{◌≡◌, ◌++◌, map, drop}
use Rattle.model_core.specs.Code.Views.{graph_of, location_of, expression_of}
use Rattle.describe.proofs.Assignments.{later_phrases}
use Rattle.describe.proofs.changes.put_later_becoming.Given as goal

abbrev pub invariant-loop-place : goal.invariant-loop-place
invariant-loop-place l =
    let g = graph_of l.model in
    l.out.items ++ later_phrases g (map location_of (drop l.place l.targets)) (drop l.place (map expression_of l.values)) ≡ l.initial.out.items ++ later_phrases g (map location_of l.targets) (map expression_of l.values)
