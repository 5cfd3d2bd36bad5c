use Rattle.std.proofs.Common.{◌≡◌, ◌*◌, map}
use Rattle.std.specs.List.{range_with_len}
use Rattle.model_core.specs.Code.Views.{vertex_of}
use Rattle.model_gen.specs.Generated.{generated_vertex}
use Rattle.model_gen.proofs.WordsInTurn.{moved_on}
use Rattle.model_gen.proofs.vertices_by_words.vertices_by_words.Given as goal

abbrev pub invariant-loop-place : goal.invariant-loop-place
invariant-loop-place l = record {
  words : l.streams ≡ moved_on l.seed (3 * l.place);
  made : map vertex_of l.made.items ≡ map (generated_vertex l.seed l.vertices) (range_with_len 0 l.place);
}
