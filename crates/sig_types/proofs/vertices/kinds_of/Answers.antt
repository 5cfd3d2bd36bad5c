use Rattle.std.proofs.Common.{sym, ◌∙◌, map, take, arith}
use Rattle.std.proofs.lemmas.List.{map_push, take_all}
use Rattle.sig_base.proofs.Lists.{seen_more}
use Rattle.model_core.specs.Code.WrittenViews.{written_name}
use Rattle.model_core.specs.Static.Meanings.{meaning_of}
use Rattle.model_core.specs.Static.PartFaults.{parameter_kind}
use Rattle.sig_types.proofs.vertices.kinds_of.Goals as goal

pub loop-raw-preserved : goal.loop-raw-preserved
loop-raw-preserved c =
    let l = c.loop-raw in
    let x = c.raw-item.result in
    c.in_ok-push.ensures.items ∙ rw (l.invariant, c.kind_of_scalar.ensures, seen_more written_name c.args.raws.now l.raw-index x c.loop-raw-test.true c.raw-item.is) (sym (map_push (parameter_kind (meaning_of c.args.names.now)) (map written_name (take l.raw-index c.args.raws.now)) (written_name x)))

pub returns : goal.returns
returns c = rw (c.from_vec.ensures, ← take_all c.loop-raw.raw-index c.args.raws.now (omega (arith, c.loop-raw-test.false))) c.loop-raw.invariant
