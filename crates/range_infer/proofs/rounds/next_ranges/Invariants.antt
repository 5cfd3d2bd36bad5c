use Rattle.std.proofs.Common.{◌≡◌, map, List}
use Rattle.std.specs.List.{range_with_len, fold}
use Rattle.model_core.specs.Code.Views.{graph_of}
use Rattle.model_core.specs.declared.incoming.Incoming.{Incoming}
use Rattle.model_core.specs.Ranges.Inference.{next_range}
use Rattle.range_infer.specs.Inner.GrownBy.{grown_by}
use Rattle.range_infer.proofs.rounds.next_ranges.Given as goal

abbrev pub invariant-loop-place : goal.invariant-loop-place
invariant-loop-place l =
    (takes : List Incoming) → l.grown ≡ fold (grown_by (graph_of l.model)) l.ranges takes → l.next.items ≡ map (next_range (graph_of l.model) l.late takes l.ranges) (range_with_len 0 l.place)
