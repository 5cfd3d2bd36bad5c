use Rattle.std.proofs.Common.{◌∙◌, sym, ap, arith}
use Rattle.watch_trace.specs.Tracing.{Tracing}
use Rattle.run_tests.proofs.both_lists.history_over.Goals as goal

pub follow-outcome-requires-clause-budget : goal.follow-outcome-requires-clause-budget
follow-outcome-requires-clause-budget g c = omega (arith, c.in_ok-run.ensures.ok.turns)

pub follow-outcome-requires-clause-one_model : goal.follow-outcome-requires-clause-one_model
follow-outcome-requires-clause-one_model g c = ap (λ (t : Tracing). t.model) c.in_ok-tracer.ensures ∙ sym c.in_ok-run.ensures.ok.model

pub follow-outcome-requires-clause-goes_on : goal.follow-outcome-requires-clause-goes_on
follow-outcome-requires-clause-goes_on g c = c.in_ok-run.ensures.ok.goes_on
