-- One list more, if its variable moved.
use Rattle.std.proofs.Common.{◌+◌, Vec, Global, ◌∙◌, sym, ap, subst, arith}
use Rattle.range_infer.specs.declared.readers.PartPlace.{PartPlace}
use Rattle.range_infer.specs.Inner.Readers.{HasReaders}
use Rattle.range_infer.proofs.ListsReadAgain.{lists_more, lists_stay}
use Rattle.range_infer.proofs.readers.readers_of_moved.Goals as goal
use Rattle.range_infer.proofs.readers.readers_of_moved.Goals.{then-moved-var+in_ok-extend_from_slice, else-moved-var}

pub loop-var-preserved : goal.loop-var-preserved
loop-var-preserved c =
    let moved = c.args.moved.now in
    let readers = c.args.readers.now in
    let n = c.loop-var.var in
    let old = c.loop-var.parts.items in
    elim c.if-moved-var.branch [
      | then-moved-var+in_ok-extend_from_slice w ↦ lists_more moved readers n old w.readers_of.result.now c.if-moved-var.parts.items c.loop-var.invariant w.readers_of.ensures (ap (λ (parts : Vec PartPlace Global). parts.items) w.parts-is ∙ w.in_ok-extend_from_slice.ensures.items)
      | else-moved-var w ↦ subst (λ (parts : Vec PartPlace Global). HasReaders moved readers (n + 1) parts.items) (sym w.parts-is) (lists_stay moved readers n old c.loop-var.invariant w.if-moved-var.false)
    ]

pub returns : goal.returns
returns c = λ v small. c.loop-var.invariant v (omega arith)
