use Rattle.merge_rules.proofs.SingleUrgentModels.SettledSteps.{begins_settled, step_settled}
use Rattle.merge_rules.proofs.law.at_most_one_event_is_urgent.Goals as goal

pub returns-clause-begins : goal.returns-clause-begins
returns-clause-begins c = λ g starts valid. begins_settled g ((c.validity_is_by_parts.ensures.by_parts g).0 valid).0.parts starts

pub returns-clause-kept : goal.returns-clause-kept
returns-clause-kept c = λ g seed now later n valid single settled next due done.
    let keeps = ((c.validity_is_by_parts.ensures.by_parts g).0 valid).0.parts in
    step_settled g keeps (λ s clk a b inside early. c.exclusive_conditions_are_never_both_true.ensures.apart g s clk a b keeps.variables inside early) single seed now later n settled next due done
