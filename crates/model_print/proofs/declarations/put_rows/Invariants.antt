use Rattle.std.proofs.Common.{map, take}
use Rattle.std.specs.List.{flat_map}
use Rattle.model_core.specs.Text.Canonical.{row_text}
use Rattle.model_core.specs.Code.Views.{weighted_of}
use Rattle.model_print.proofs.declarations.put_rows.Given as goal

abbrev pub invariant-loop-row : goal.invariant-loop-row
invariant-loop-row g l = g.P.Pen.adds l.initial.out l.out (flat_map row_text (map weighted_of (take l.row-index l.rows)))
