-- One more of both lists, or one of them has come to its end.
use Rattle.std.proofs.Common.{◌∙◌, map, ap}
use Rattle.std.proofs.lemmas.List.{map-id}
use Rattle.model_core.specs.Rules.Uses.{variables_in}
use Rattle.model_core.specs.Code.Views.{expression_of}
use Rattle.var_slicing.proofs.ReadsBeside.{reads-added}
use Rattle.var_slicing.proofs.SideBySide.{begun_beside, one_beside, all_beside}
use Rattle.var_slicing.proofs.reads_beside.add_values_beside.Goals as goal

pub loop-param-init : goal.loop-param-init
loop-param-init c = begun_beside (map-id _ ∙ (cc)) (ap (map expression_of) (cc))

pub loop-param-preserved : goal.loop-param-preserved
loop-param-preserved c =
    one_beside c.loop-param.invariant c.in-Some.is c.next.ensures.steps
    (c.in_ok-add_reads_beside.ensures ∙ reads-added c.args.marks.now c.in-Some.param.now c.loop-param.pairs.items (variables_in (expression_of c.in-Some.value.now)))

pub returns : goal.returns
returns c = all_beside c.loop-param.invariant c.next.new.self c.in-None.is c.next.ensures.steps
