use Rattle.normal_form.proofs.law.models_with_one_normal_form_are_alike.Goals as goal

pub returns : goal.returns
returns c = λ g h one other valid other_valid is is_other same declared.
    let keeps = c.normal_forms_keep_the_meaning.ensures in
    let alike = c.meaning_alike_is_an_equivalence.ensures.same in
    c.models_with_one_form_are_alike.ensures g h one other (alike g one (keeps.same g one valid is) (keeps.declared g one valid is)) (alike h other (keeps.same h other other_valid is_other) (keeps.declared h other other_valid is_other)) same declared
