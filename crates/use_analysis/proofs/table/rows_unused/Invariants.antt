use Rattle.std.proofs.Common.{◌≡◌, map}
use Rattle.use_analysis.specs.UseRows.{uses_row}
use Rattle.use_analysis.specs.Inner.Noting.{rows_unused}
use Rattle.use_analysis.proofs.table.rows_unused.Given as goal

abbrev pub invariant-loop-place : goal.invariant-loop-place
invariant-loop-place l = map uses_row l.rows.items ≡ rows_unused l._place
