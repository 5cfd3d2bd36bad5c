use Rattle.std.proofs.Common.{◌≡◌, ◌++◌, map, length, drop}
use Rattle.model_core.specs.Run.Value.{each, place_of}
use Rattle.model_core.specs.Code.Views.{graph_of, location_of}
use Rattle.sig_expr.specs.Outcomes.{map_ok}
use Rattle.sig_expr.proofs.lists.put_places.Given as goal

abbrev pub invariant-loop-target : goal.invariant-loop-target
invariant-loop-target l = record {
  so_far : map_ok (λ later. l.places.items ++ later) (each (place_of (graph_of l.model) l.state l.clk) (map location_of (drop l.target-index l.targets))) ≡ each (place_of (graph_of l.model) l.state l.clk) (map location_of l.targets);
  count : length l.places.items ≡ l.target-index;
}
