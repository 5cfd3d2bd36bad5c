-- The line ends with its line feed, or with the text.
use Rattle.std.proofs.Common.{◌≡◌, ◌+◌, ◌∷◌, ℕ, suc, List, take, drop, length, sym, ap, ap₂, ◌∙◌, arith}
use Rattle.std.proofs.Math.Seq.{take-length}
use Rattle.model_pairs.specs.LinesOfTexts.{lines_of}
use Rattle.model_pairs.proofs.FirstLines.{NoneBefore, first_line, only_line, nothing_after}
use Rattle.model_pairs.proofs.lines_apart.split_line.Goals as goal

pub returns-then-byte-eq10-clause-lines : goal.returns-then-byte-eq10-clause-lines
returns-then-byte-eq10-clause-lines c =
    let text = c.args.text.now in
    let place = c.loop-place.place in
    let one : suc place ≡ place + 1 = omega arith in
    first_line place text c.loop-place-test.true c.if-byte-eq10.true c.loop-place.invariant
    ∙ ap (λ (n : ℕ). take n text ∷ lines_of (drop n text)) one
    ∙ ap₂ (λ (a b : List ℕ). a ∷ lines_of b) (sym c.split_at.ensures.front) (sym c.split_at.ensures.back)

pub returns-clause-lines : goal.returns-clause-lines
returns-clause-lines c =
    let text = c.args.text.now in
    let none : NoneBefore text (length text) = λ k less. c.loop-place.invariant k (omega (arith, c.loop-place-test.false)) in
    only_line text c.requires none
    ∙ ap₂ (λ (a b : List ℕ). a ∷ lines_of b) (sym (take-length text)) (sym (nothing_after text))
    ∙ ap₂ (λ (a b : List ℕ). a ∷ lines_of b) (sym c.split_at-2.ensures.front) (sym c.split_at-2.ensures.back)
