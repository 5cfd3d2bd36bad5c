use Rattle.answer_laws.proofs.TwoModels.{promises_along}
use Rattle.answer_laws.proofs.two_calls.print_and_reduce.Goals as goal

pub returns : goal.returns
returns g c = λ print reduce text first second done done_too.
    c.printed_and_reduced_models_are_the_same.ensures text _ _ _ _ _ _ _ _
    (promises_along _ _ _ _ _ _ print c.program-first_status.ensures.promises)
    (promises_along _ _ _ _ _ _ reduce c.program-second_status.ensures.promises)
    first second done done_too
