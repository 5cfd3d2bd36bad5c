-- One piece more is taken, and at the end all are.
use Rattle.std.proofs.Common.{arith, length-drop, ◌∙◌, subst}
use Rattle.std.proofs.lemmas.List.{take_all, take_rest}
use Rattle.sig_base.specs.Sink.{GrowsBy}
use Rattle.sig_base.proofs.SinkLemmas.{GrowsBy-more}
use Rattle.sig_base.proofs.putting.put.Goals as goal

pub loop-done-preserved : goal.loop-done-preserved
loop-done-preserved g c =
    let done = c.loop-done.done in
    let before = c.loop-done.invariant in
    let wrote = c.in_ok-done.ensures in
    record {
      within = omega (arith, length-drop done c.args.bytes.now);
      grown = GrowsBy-more _ _ _ c.args.bytes.now done c.in_ok-done.field-0 before.grown (rw (take_rest c.args.bytes.now done) at wrote.grows);
      steady = wrote.steady ∙ before.steady;
      unchanged = λ h. absurd (omega (arith, wrote.some));
      unsettled = λ _. wrote.unsettled;
    }

pub returns-clause-all : goal.returns-clause-all
returns-clause-all g c = subst (GrowsBy _ _) (take_all c.loop-done.done c.args.bytes.now (omega arith)) c.loop-done.invariant.grown

pub returns-clause-unsettled : goal.returns-clause-unsettled
returns-clause-unsettled g c = λ some. c.loop-done.invariant.unsettled (omega arith)
