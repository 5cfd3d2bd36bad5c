-- one before the place, or else one after it
use Rattle.std.proofs.Common.{◌+◌, arith}
use Rattle.std.proofs.lemmas.List.{take_rest}
use Rattle.model_core.specs.EventGraph.{has_drawn_delay}
use Rattle.model_core.specs.Code.Views.{edge_of}
use Rattle.model_print.proofs.VersionLines.{any_before, any_after_place}
use Rattle.model_print.proofs.version_without.another_has_drawn_delay.Goals as goal

pub returns-then-one_has_drawn_delay : goal.returns-then-one_has_drawn_delay
returns-then-one_has_drawn_delay c = any_before edge_of has_drawn_delay c.args.edges.now c.args.left_out (c.args.left_out + 1) (omega arith) _ c.if-one_has_drawn_delay.true c.one_has_drawn_delay.ensures

pub returns-else-one_has_drawn_delay : goal.returns-else-one_has_drawn_delay
returns-else-one_has_drawn_delay c = any_after_place edge_of has_drawn_delay c.args.edges.now c.args.left_out (c.args.left_out + 1) (omega arith) _ _ c.if-one_has_drawn_delay.false c.one_has_drawn_delay.ensures (rw (take_rest c.args.edges.now (c.args.left_out + 1)) at c.one_has_drawn_delay-else-one_has_drawn_delay.ensures)
