use Rattle.std.proofs.Common.{◌-◌, arith, ap, sym, ◌∙◌}
use Rattle.std.proofs.lemmas.List.{get_or_default}
use Rattle.model_lex.specs.PieceViews.{piece_kind}
use Rattle.model_core.specs.Text.Openings.{ends_part}
use Rattle.model_read.proofs.openings.last_end.Goals as goal

-- any token serves in place of a missing one
pub returns-then-ends_part : goal.returns-then-ends_part
returns-then-ends_part c =
    let inside = c.loop-place.invariant in
    let some = c.loop-place-test.true in (
      omega arith,
      omega arith,
      λ bytes d. ap (λ t. ends_part (piece_kind bytes t.kind)) (get_or_default c.args.tokens.now (c.loop-place.place - 1) d _ (omega arith)) ∙ sym (c.ends_part.ensures bytes) ∙ c.if-ends_part.true,
    )
