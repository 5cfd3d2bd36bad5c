-- Each vertex has a mark, which says whether it can be reached.
use Rattle.std.proofs.Common.{◌≡◌, length, ◌||◌, List, Bool, map, ◌∙◌}
use Rattle.std.specs.List.{range_with_len}
use Rattle.std.proofs.lemmas.List.FromFn.{length-map-range_with_len}
use Rattle.model_core.specs.EventGraph.{EventGraph, EventVertex}
use Rattle.model_core.specs.Rules.MarkedPlaces.{is_marked}
use Rattle.model_core.specs.Rules.Reached.{begins_reached, is_led_to, one_edge_further, reached_marks}
use Rattle.mark_laws.proofs.LeastSets.{passes-long}

further-long : (vs : List EventVertex) (marks : List Bool) → length (one_edge_further vs marks) ≡ length marks
further-long vs marks = length-map-range_with_len (λ k. is_marked marks k || is_led_to marks vs k) 0 (length marks)

pub reached_marks-long : (g : EventGraph) → length (reached_marks g) ≡ length g.vertices
reached_marks-long g =
    let first = map (begins_reached g) (range_with_len 0 (length g.vertices)) in
    passes-long (one_edge_further g.vertices) (further-long g.vertices) (length first) first ∙ length-map-range_with_len (begins_reached g) 0 (length g.vertices)
