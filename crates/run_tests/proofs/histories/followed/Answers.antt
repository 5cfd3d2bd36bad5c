use Rattle.std.proofs.Common.{◌∙◌, sym, ap, arith}
use Rattle.watch_trace.specs.Tracing.{Tracing}
use Rattle.run_tests.proofs.histories.followed.Goals as goal

pub follow-first-requires-clause-budget : goal.follow-first-requires-clause-budget
follow-first-requires-clause-budget g c = omega (arith, c.in_ok-run.ensures.fresh, c.requires.few)

pub follow-first-requires-clause-one_model : goal.follow-first-requires-clause-one_model
follow-first-requires-clause-one_model g c = ap (λ (t : Tracing). t.model) c.in_ok-tracer.ensures ∙ sym c.in_ok-run.ensures.model

pub follow-first-requires-clause-goes_on : goal.follow-first-requires-clause-goes_on
follow-first-requires-clause-goes_on g c = c.in_ok-run.ensures.goes_on

pub follow-last-requires-clause-budget : goal.follow-last-requires-clause-budget
follow-last-requires-clause-budget g c = omega (arith, c.follow-first.ensures.keeps.counted, c.in_ok-run.ensures.fresh, c.requires.few)

pub follow-last-requires-clause-one_model : goal.follow-last-requires-clause-one_model
follow-last-requires-clause-one_model g c =
    c.follow-first.ensures.keeps.traced ∙ ap (λ (t : Tracing). t.model) c.in_ok-tracer.ensures ∙ sym c.in_ok-run.ensures.model
    ∙ sym c.follow-first.ensures.keeps.model
