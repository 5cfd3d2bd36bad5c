use Rattle.alike_laws.proofs.AlikeModels.{declared_sym, declared_trans}
use Rattle.alike_laws.proofs.comparing.models_with_one_form_are_alike.Goals as goal

pub returns : goal.returns
returns c = λ g h one other to_one to_other same declared.
    let laws = c.meaning_alike_is_an_equivalence.ensures in
    let both = declared_trans one g other (declared_sym g one to_one.declared) (declared_trans g h other declared to_other.declared) in
    let between = laws.same one other (c.names_are_not_seen.ensures one other same both.watched both.started) both in
    laws.transitive g one h to_one (laws.transitive one other h between (laws.symmetric h other to_other))
