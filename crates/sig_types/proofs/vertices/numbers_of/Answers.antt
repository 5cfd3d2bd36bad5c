use Rattle.std.proofs.Common.{arith}
use Rattle.std.proofs.lemmas.List.{take_all}
use Rattle.model_core.specs.Code.WrittenViews.{written_name}
use Rattle.model_core.specs.Text.Numbering.{numbered_parameter}
use Rattle.model_core.specs.Static.Meanings.{AsScalar, meaning_of}
use Rattle.model_core.specs.Static.PartFaults.{use_faults}
use Rattle.static_laws.proofs.ListChecks.{turn}
use Rattle.sig_types.proofs.vertices.numbers_of.Goals as goal

pub loop-raw-preserved : goal.loop-raw-preserved
loop-raw-preserved c =
    let m = meaning_of c.args.names.now in
    turn m (use_faults m AsScalar) numbered_parameter written_name _ _ _ c.args.raws.now c.loop-raw.raw-index c.raw-item.result c.loop-raw.vars.items _ c.variable-var.result.part c.loop-raw-test.true c.raw-item.is c.in_ok-push.ensures.items c.loop-raw.invariant c.variable-var.ensures.checked

pub returns : goal.returns
returns c = rw (c.from_vec.ensures, ← take_all c.loop-raw.raw-index c.args.raws.now (omega (arith, c.loop-raw-test.false))) c.loop-raw.invariant
