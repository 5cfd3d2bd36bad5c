use Rattle.std.proofs.Common.{◌∙◌, ap, arith, length, map, sym}
use Rattle.std.proofs.lemmas.List.{length-drop, take_rest}
use Rattle.model_lex.specs.PieceViews.{piece_of}
use Rattle.model_lex.specs.declared.piece.PieceKind.TheVariants as kinds
use Rattle.text_laws.specs.OpeningCount.{deep_from}
use Rattle.text_laws.proofs.OpeningLaws.{deep-is_counted}
use Rattle.model_read.proofs.OpeningSteps.{passed_on}
use Rattle.model_read.proofs.openings.first_too_deep.Goals as goal

pub loop-end-init : goal.loop-end-init
loop-end-init c = (omega arith, λ text. sym (deep-is_counted c.args.limit (map (piece_of text) c.args.tokens.now)))

pub loop-end-preserved : goal.loop-end-preserved
loop-end-preserved c =
    let found = c.in-Some.ensures in
    let rest = take_rest c.args.tokens.now c.loop-end.at in
    let long = ap length rest in
    let left = length-drop c.loop-end.at c.args.tokens.now in
    let inside = c.loop-end.invariant.0 in (
      omega (arith, found.1, long, left, inside),
      λ text. passed_on c.args.limit c.loop-end.at c.in-Some.end text c.args.tokens.now _ (record { from = 0; length = 0; kind = kinds.Name }) _ rest inside found.0 found.1 found.2 (c.loop-end.invariant.1 text),
    )

pub returns : goal.returns
returns c = λ text.
    c.counted_too_deep.ensures text
    ∙ deep-is_counted c.args.limit _
    ∙ ap (λ ts. deep_from c.args.limit c.args.limit (map (piece_of text) ts)) (take_rest c.args.tokens.now c.loop-end.at)
    ∙ c.loop-end.invariant.1 text
