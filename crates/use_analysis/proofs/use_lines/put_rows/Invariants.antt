use Rattle.std.proofs.Common.{◌≡◌, ◌++◌, ℕ}
use Rattle.std.specs.List.{range_with_len, flat_map}
use Rattle.model_core.specs.Rules.Uses.{uses_of}
use Rattle.model_core.specs.Code.Views.{graph_of}
use Rattle.use_analysis.specs.UsesText.{uses_line}
use Rattle.use_analysis.proofs.use_lines.put_rows.Given as goal

abbrev pub invariant-loop-var : goal.invariant-loop-var
invariant-loop-var l =
    l.out.items ≡ l.initial.out.items ++ flat_map (λ (v : ℕ). uses_line (graph_of l.model) v (uses_of (graph_of l.model) v)) (range_with_len 0 l.var)
