-- One pair more, for the reasons that the sets show.
use Rattle.std.proofs.Common.{[], ◌∷◌, ◌++◌, cond, ap, ◌∙◌, arith}
use Rattle.std.proofs.lemmas.List.{length-map}
use Rattle.model_core.specs.declared.reasons.Reasons.{Reasons}
use Rattle.model_core.specs.Code.Views.{graph_of, vertex_of}
use Rattle.model_core.specs.Conflicts.Conflict.{is_conflict}
use Rattle.model_core.specs.Conflicts.ConflictPairs.{conflict_if}
use Rattle.model_core.proofs.NumbersInTurn.{next_joined}
use Rattle.conflict_report.proofs.TablesNoted.{reasons-found}
use Rattle.conflict_report.proofs.pairs.add_from.Goals as goal

pub loop-b-preserved : goal.loop-b-preserved
loop-b-preserved c =
    let (below, so_far) = c.loop-b.invariant in
    let g = graph_of c.args.model.now in
    let a = c.args.a in
    let b = c.loop-b.b in
    let found = reasons-found g c.args.tables.now c.in_ok-partners.partners a b c.requires.tables c.in_ok-partners.ensures c.requires.exists (omega (arith, c.loop-b-test.true, c.len-b-end.ensures, length-map c.args.model.now.vertices vertex_of)) in
    (omega arith, next_joined (conflict_if g a) c.args.pairs.now c.loop-b.pairs _ a b below (c.in_ok-add_if.ensures ∙ ap (λ (r : Reasons). c.loop-b.pairs ++ cond (is_conflict r) (record { a = a; b = b; reasons = r } ∷ []) []) found) so_far)
