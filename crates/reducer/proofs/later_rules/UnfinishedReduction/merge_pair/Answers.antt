-- The place of the second vertex is one of those of which something is known.
use Rattle.std.proofs.Common.{◌<◌, length, arith}
use Rattle.std.proofs.lemmas.Bool.{ltb-true}
use Rattle.model_core.specs.Run.Step.{vertex_at}
use Rattle.model_core.specs.Rules.Merge.{merged_with}
use Rattle.model_core.specs.Code.Views.{graph_of}
use Rattle.model_core.proofs.PlacesChanged.{length_placed}
use Rattle.reducer.proofs.FirstLaterRule.{both_exist}
use Rattle.reducer.proofs.later_rules.UnfinishedReduction.merge_pair.Goals as goal

pub leaves_second_unreached-requires : goal.leaves_second_unreached-requires
leaves_second_unreached-requires c =
    let g = graph_of c.args.self.now.model in
    let first = c.args.first in
    let second = c.args.second in
    let there : second < length g.vertices = ltb-true second (length g.vertices) (both_exist g first second c.requires.merging.holds).1 in
    let long = length_placed (merged_with (vertex_at g second)) first g.vertices in
    record { there = omega (arith, there, long, c.requires.merging.pairs.long) }
