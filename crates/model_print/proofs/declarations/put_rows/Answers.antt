-- the invariant after one element more
use Rattle.std.proofs.lemmas.List.{map_more}
use Rattle.model_core.specs.Text.Canonical.{row_text}
use Rattle.model_core.specs.Code.Views.{weighted_of}
use Rattle.model_print.proofs.Putting.{one_more_put}
use Rattle.model_print.proofs.declarations.put_rows.Goals as goal

pub loop-row-preserved : goal.loop-row-preserved
loop-row-preserved g c = one_more_put g.met.P.Pen.both row_text _ _ _ (map_more weighted_of _ c.loop-row.row-index _ c.loop-row-test.true) c.loop-row.invariant c.put_row.ensures
