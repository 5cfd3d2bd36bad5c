use Rattle.std.proofs.Common.{IsTrue, subst}
use Rattle.model_core.specs.Run.State.{in_range}
use Rattle.range_infer.proofs.Declared.{of_either}
use Rattle.range_infer.proofs.NarrowedRuns.{stays_inside, stays_declared}
use Rattle.range_infer.proofs.law.no_run_leaves_the_ranges.Goals as goal

pub returns-clause-inductive : goal.returns-clause-inductive
returns-clause-inductive c = λ g ranges seed until n starts r valid fitting inductive early there.
    stays_inside g ranges ((c.validity_is_by_parts.ensures.by_parts g).0 valid).0.parts fitting inductive seed until early n starts r there

pub returns-clause-narrowed : goal.returns-clause-narrowed
returns-clause-narrowed c = λ g h seed until n starts r valid narrowed early there.
    let ends = c.rounds_end_with_inductive_ranges.ensures in
    let parts = ((c.validity_is_by_parts.ensures.by_parts g).0 valid).0.parts in
    subst (λ k. IsTrue (in_range k r.moment.now.state)) narrowed.declared
    (of_either (λ k. IsTrue (in_range k r.moment.now.state)) g narrowed.ranges (stays_declared g parts seed until n starts r there)
    (λ short. stays_inside g narrowed.ranges parts (ends.fitting g narrowed.ranges valid narrowed.inferred) (ends.inductive g narrowed.ranges valid narrowed.inferred) seed until early n starts r there))
