-- The part of an edge between `cancel` and the condition, as plain data.
use Rattle.std.specs.Prelude.{ℕ, map, Option}
use Rattle.std.specs.Option.{option_map}
use Rattle.model_core.specs.Code.WrittenViews.{written_name, written_expression, written_edge_kind}
use Rattle.model_core.specs.Text.Written.{WrittenExpression, WrittenEdge}
use Rattle.model_core.specs.Text.Language.{edge_written}
use Rattle.model_read.specs.declared.edges.Cancellation.{Cancellation}

-- the edge, for each place and condition
abbrev pub written_cancel : Cancellation → ℕ → Option WrittenExpression → WrittenEdge
written_cancel c = λ at condition. edge_written (written_edge_kind c.form) at (written_name c.target) (option_map (map written_expression) c.values) condition
