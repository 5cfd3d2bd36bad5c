-- one before the place, or else one after it
use Rattle.std.proofs.Common.{◌+◌, arith}
use Rattle.std.proofs.lemmas.List.{take_rest}
use Rattle.model_core.specs.Text.VersionNeeded.{has_later_parts}
use Rattle.model_core.specs.Code.Views.{vertex_of}
use Rattle.model_print.proofs.VersionLines.{any_before, any_after_place}
use Rattle.model_print.proofs.version_without.another_has_later_parts.Goals as goal

pub returns-then-one_has_later_parts : goal.returns-then-one_has_later_parts
returns-then-one_has_later_parts c = any_before vertex_of has_later_parts c.args.vertices.now c.args.gone (c.args.gone + 1) (omega arith) _ c.if-one_has_later_parts.true c.one_has_later_parts.ensures

pub returns-else-one_has_later_parts : goal.returns-else-one_has_later_parts
returns-else-one_has_later_parts c = any_after_place vertex_of has_later_parts c.args.vertices.now c.args.gone (c.args.gone + 1) (omega arith) _ _ c.if-one_has_later_parts.false c.one_has_later_parts.ensures (rw (take_rest c.args.vertices.now (c.args.gone + 1)) at c.one_has_later_parts-else-one_has_later_parts.ensures)
