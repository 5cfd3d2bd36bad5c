-- One row more.
use Rattle.std.proofs.Common.{◌∙◌, ap, ap₂, sym, ◌++◌, ◌∷◌, [], List, map, arith}
use Rattle.std.proofs.lemmas.List.{map-append}
use Rattle.std.proofs.lemmas.List.FromFn.{map-range_with_len_more}
use Rattle.model_core.specs.Rules.Uses.{VariableUses}
use Rattle.use_analysis.specs.UseRows.{uses_row}
use Rattle.use_analysis.specs.Inner.Noting.{no_uses}
use Rattle.use_analysis.proofs.table.rows_unused.Goals as goal

pub loop-place-preserved : goal.loop-place-preserved
loop-place-preserved c =
    ap (map uses_row) c.in_ok-push.ensures.items ∙ map-append uses_row c.loop-place.rows.items (c.new.result ∷ [])
    ∙ ap₂ (λ (rs : List VariableUses) (r : VariableUses). rs ++ r ∷ []) c.loop-place.invariant c.new.ensures
    ∙ sym (map-range_with_len_more (λ k. no_uses) 0 c.loop-place._place c.loop-place._place (omega arith))
