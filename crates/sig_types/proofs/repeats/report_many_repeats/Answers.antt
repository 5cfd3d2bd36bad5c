use Rattle.std.proofs.Common.{map, take, arith}
use Rattle.std.proofs.lemmas.List.{take_all}
use Rattle.sig_base.proofs.Lists.{seen_more}
use Rattle.model_core.specs.Code.WrittenViews.{written_name}
use Rattle.sig_types.proofs.EarlierNames.{repeat_key, known_key}
use Rattle.sig_types.proofs.repeats.report_many_repeats.Goals as goal

pub loop-raw-preserved : goal.loop-raw-preserved
loop-raw-preserved c =
    let seen = map written_name (take c.loop-raw.raw-index c.args.raws.now) in
    let n = written_name c.raw-item.result in
    rw (seen_more written_name c.args.raws.now c.loop-raw.raw-index c.raw-item.result c.loop-raw-test.true c.raw-item.is)
    (record {
      earliest = repeat_key (λ k. k.now) _ _ _ c.loop-raw.earlier.keys c.as_slice.result.now seen n c.in_ok-added.added c.as_slice.ensures c.in_ok-added.ensures.added c.loop-raw.invariant.seen_names c.loop-raw.invariant.earliest c.note.ensures;
      seen_names = known_key (λ k. k.now) c.loop-raw.earlier.keys c.insert.new.self.keys c.as_slice.result seen n c.as_slice.ensures c.in_ok-added.ensures.keys c.loop-raw.invariant.seen_names;
    })

pub returns : goal.returns
returns c = rw (← take_all c.loop-raw.raw-index c.args.raws.now (omega (arith, c.loop-raw-test.false))) c.loop-raw.invariant.earliest
