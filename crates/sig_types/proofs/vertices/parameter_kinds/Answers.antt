use Rattle.std.proofs.Common.{◌≡◌, refl, sym, ◌∙◌, map, take, arith}
use Rattle.std.proofs.lemmas.List.{map_push, take_all}
use Rattle.sig_base.proofs.Lists.{seen_more}
use Rattle.model_core.specs.Code.WrittenViews.{written_name, written_vertex}
use Rattle.model_core.specs.Static.Meanings.{meaning_of}
use Rattle.model_core.specs.Static.PartFaults.{kinds_taken}
use Rattle.static_laws.proofs.LeftOut.{map-items}
use Rattle.sig_types.proofs.vertices.parameter_kinds.Goals as goal

pub loop-raw-preserved : goal.loop-raw-preserved
loop-raw-preserved c =
    let m = meaning_of c.args.names.now in
    let l = c.loop-raw in
    let x = c.raw-item.result in
    let kinds : c.in_ok-kinds_of.field-0 ≡ kinds_taken m (written_vertex x) = c.in_ok-kinds_of.ensures ∙ rw (c.items.ensures, map-items written_name x.params) refl in
    c.in_ok-push.ensures.items ∙ rw (l.invariant, kinds, seen_more written_vertex c.args.raws.now l.raw-index x c.loop-raw-test.true c.raw-item.is) (sym (map_push (kinds_taken m) (map written_vertex (take l.raw-index c.args.raws.now)) (written_vertex x)))

pub returns : goal.returns
returns c = rw (c.from_vec.ensures, ← take_all c.loop-raw.raw-index c.args.raws.now (omega (arith, c.loop-raw-test.false))) c.loop-raw.invariant
