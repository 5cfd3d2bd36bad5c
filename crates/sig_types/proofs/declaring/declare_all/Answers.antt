use Rattle.std.proofs.Common.{ap, arith}
use Rattle.std.proofs.lemmas.List.{take_all}
use Rattle.model_core.specs.Text.Written.{WrittenName}
use Rattle.sig_types.specs.Seen.{meaning_seen}
use Rattle.sig_types.proofs.MeaningsSoFar.{means_turn, report_turn}
use Rattle.sig_types.proofs.declaring.declare_all.Goals as goal

pub loop-place-preserved : goal.loop-place-preserved
loop-place-preserved g c =
    let l = c.loop-place in
    let x = c.index-parts-place.result in
    let n = c.name-name.ensures l.place in
    record {
      means = means_turn g.T.Declares.declaration g.T.Declares.written c.args.names.now l.names c.add.new.self c.args.fault.now l.fault c.note.new.self c.args.parts.now l.place x c.in_ok-added.added c.name-name.result.now.name (meaning_seen c.meaning-meaning.result)
          c.loop-place-test.true c.index-parts-place.is (ap (λ (m : WrittenName). m.name) n) c.meaning-meaning.ensures l.invariant.means c.in_ok-added.ensures.new c.in_ok-added.ensures.names;
      earliest = report_turn g.T.Declares.declaration g.T.Declares.written c.args.names.now l.names c.add.new.self _ _ _ c.args.parts.now l.place x c.in_ok-added.added c.name-name.result.now.name (meaning_seen c.meaning-meaning.result)
          c.loop-place-test.true c.index-parts-place.is (ap (λ (m : WrittenName). m.name) n) c.meaning-meaning.ensures l.invariant.means c.in_ok-added.ensures.new _ (ap (λ (m : WrittenName). m.at) n) l.invariant.earliest c.note.ensures;
    }

pub returns-clause-means : goal.returns-clause-means
returns-clause-means g c = rw (← take_all c.loop-place.place c.args.parts.now (omega (arith, c.loop-place-test.false))) c.loop-place.invariant.means

pub returns-clause-earliest : goal.returns-clause-earliest
returns-clause-earliest g c = rw (← take_all c.loop-place.place c.args.parts.now (omega (arith, c.loop-place-test.false))) c.loop-place.invariant.earliest
