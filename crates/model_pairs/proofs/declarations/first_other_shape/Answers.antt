-- One pair more, the pair that is sought, or one list has come to its end.
use Rattle.std.proofs.Common.{sym, ◌∙◌, ap, map}
use Rattle.model_core.specs.Code.Views.{watched_of}
use Rattle.model_pairs.proofs.SideBySide.{sought_from, not_here, found_here, found_nowhere}
use Rattle.model_pairs.proofs.declarations.first_other_shape.Goals as goal

pub loop-a-init : goal.loop-a-init
loop-a-init c = sought_from (ap (map watched_of) (cc)) (ap (map watched_of) (cc))

pub loop-a-preserved : goal.loop-a-preserved
loop-a-preserved c = not_here c.loop-a.invariant c.next.new.self _ c.in-Some.is c.next.ensures.steps (sym c.shapes_differ.ensures ∙ c.if-shapes_differ.false)

pub returns-then-shapes_differ : goal.returns-then-shapes_differ
returns-then-shapes_differ c = found_here c.loop-a.invariant c.next.new.self _ c.in-Some.is c.next.ensures.steps (sym c.shapes_differ.ensures ∙ c.if-shapes_differ.true)

pub returns : goal.returns
returns c = found_nowhere c.loop-a.invariant c.next.new.self c.in-None.is c.next.ensures.steps
