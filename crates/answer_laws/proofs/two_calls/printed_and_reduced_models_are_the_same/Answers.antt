use Rattle.std.proofs.Common.{refl}
use Rattle.answer_laws.proofs.TextsApart.{ModelFacts}
use Rattle.answer_laws.proofs.TwoModels.{shown_by_calls}
use Rattle.answer_laws.proofs.two_calls.printed_and_reduced_models_are_the_same.Goals as goal

pub returns : goal.returns
returns c = λ text one other first second print_before print_after reduce_before reduce_after printing reducing given given_too done done_too.
    let facts : ModelFacts = record { one_model = c.texts_read_as_one_model.ensures; by_parts = c.validity_is_by_parts.ensures.by_parts } in
    shown_by_calls facts _ _ text _ _ given given_too (printing.printed refl done) (reducing.reduced refl done_too)
