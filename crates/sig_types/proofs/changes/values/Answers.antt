use Rattle.std.proofs.Common.{map, arith}
use Rattle.std.proofs.lemmas.List.{map_push, take_all}
use Rattle.model_core.specs.Code.Views.{expression_of}
use Rattle.model_core.specs.Code.WrittenViews.{written_expression}
use Rattle.model_core.specs.Static.Meanings.{meaning_of}
use Rattle.sig_types.proofs.CarriedValues.{value_turn}
use Rattle.sig_types.proofs.changes.values.Goals as goal

pub loop-i-preserved : goal.loop-i-preserved
loop-i-preserved c =
    value_turn (meaning_of c.args.names.now) written_expression _ _ _ c.args.kinds.now c.args.raws.now c.loop-i.i c.wanted_at.result c.index-raws-i.result (map expression_of c.loop-i.values.items) _ (expression_of c.in_ok-typed.typed.part)
    c.loop-i-test.true c.index-raws-i.is c.wanted_at.ensures (rw c.in_ok-push.ensures.items (map_push expression_of c.loop-i.values.items c.in_ok-typed.typed.part)) c.loop-i.invariant c.in_ok-typed.ensures.checked

pub returns : goal.returns
returns c = rw (c.from_vec.ensures, ← take_all c.loop-i.i c.args.raws.now (omega (arith, c.loop-i-test.false))) c.loop-i.invariant
