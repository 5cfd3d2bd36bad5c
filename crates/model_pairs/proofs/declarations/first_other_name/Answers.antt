-- One pair more, the pair that is sought, or one list has come to its end.
use Rattle.std.proofs.Common.{sym, ◌∙◌}
use Rattle.std.proofs.lemmas.List.{map-id}
use Rattle.model_pairs.proofs.SideBySide.{sought_from, not_here, found_here, found_nowhere}
use Rattle.model_pairs.proofs.declarations.first_other_name.Goals as goal

pub loop-v-init : goal.loop-v-init
loop-v-init c = sought_from (map-id _ ∙ (cc)) (map-id _ ∙ (cc))

pub loop-v-preserved : goal.loop-v-preserved
loop-v-preserved c = not_here c.loop-v.invariant c.next.new.self _ c.in-Some.is c.next.ensures.steps (sym c.names_differ.ensures ∙ c.if-names_differ.false)

pub returns-then-names_differ : goal.returns-then-names_differ
returns-then-names_differ c = found_here c.loop-v.invariant c.next.new.self _ c.in-Some.is c.next.ensures.steps (sym c.names_differ.ensures ∙ c.if-names_differ.true)

pub returns : goal.returns
returns c = found_nowhere c.loop-v.invariant c.next.new.self c.in-None.is c.next.ensures.steps
