use Rattle.std.proofs.Common.{◌≡◌, ◌++◌, ℕ, take, codes}
use Rattle.std.specs.List.{flat_map}
use Rattle.model_core.specs.Text.Canonical.{vertex_name}
use Rattle.model_core.specs.Code.Views.{graph_of}
use Rattle.use_analysis.proofs.use_lines.put_later_users.Given as goal

abbrev pub invariant-loop-vertex : goal.invariant-loop-vertex
invariant-loop-vertex l = l.out.items ≡ l.initial.out.items ++ flat_map (λ (w : ℕ). codes "," ++ vertex_name (graph_of l.model) w) (take l.vertex-index l.vertices)
