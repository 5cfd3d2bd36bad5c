-- The row at the place is changed, or there is none.
use Rattle.std.proofs.Common.{refl, arith}
use Rattle.std.proofs.lemmas.Result.{on_ok_weaker}
use Rattle.model_core.proofs.PlacesChanged.{map-set-with_place, with_place-beyond}
use Rattle.use_analysis.specs.UseRows.{uses_row}
use Rattle.use_analysis.specs.Inner.Noting.{noted}
use Rattle.use_analysis.proofs.table.note_at.Goals as goal

pub returns-in-Some : goal.returns-in-Some
returns-in-Some c =
    on_ok_weaker c.note.result
    (λ same. map-set-with_place uses_row (noted c.args.used) c.args.rows.now.items c.args.var c.in-Some.row.now _ (omega (arith, c.args.rows.now.ok.0, c.in-Some.ensures.variant.0 refl)) c.in-Some.ensures.value same)
    c.note.ensures

pub returns-in-None : goal.returns-in-None
returns-in-None c = with_place-beyond uses_row (noted c.args.used) c.args.rows.now.items c.args.var (λ below. c.in-None.ensures.variant.1 (omega (arith, c.args.rows.now.ok.0, below)))
