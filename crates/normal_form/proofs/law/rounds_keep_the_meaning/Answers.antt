use Rattle.normal_form.proofs.DeclaredFrom.{round-declares}
use Rattle.normal_form.proofs.DeclarationsKept.{same-declares}
use Rattle.normal_form.proofs.RoundLaws.{Reduces, Ends, EndsOnce, KeepsValid, KeepsSame, round-ends, round-once, round-valid, round-same}
use Rattle.normal_form.proofs.law.rounds_keep_the_meaning.Goals as goal

pub returns-clause-exists : goal.returns-clause-exists
returns-clause-exists c =
    let reduce : Ends Reduces = λ g valid. let (applications, h, is) = c.strategies_end.ensures g valid in (h, (applications, is)) in
    round-ends c.narrowed_models_mean_the_same.ensures.exists c.narrowed_models_mean_the_same.ensures.valid reduce c.fusing_ends.ensures.ends

pub returns-clause-determined : goal.returns-clause-determined
returns-clause-determined c =
    let reduce : EndsOnce Reduces = λ g h k one other. c.strategies_are_determined.ensures.reduced g h k one.0 other.0 one.1 other.1 in
    round-once c.narrowed_models_mean_the_same.ensures.determined reduce c.fusing_ends.ensures.determined

pub returns-clause-valid : goal.returns-clause-valid
returns-clause-valid c =
    let reduce : KeepsValid Reduces = λ g h valid (applications, is). c.strategies_keep_the_meaning.ensures.valid g applications h valid is in
    round-valid c.narrowed_models_mean_the_same.ensures.valid reduce c.fusing_ends.ensures.valid

pub returns-clause-same : goal.returns-clause-same
returns-clause-same c =
    let reduce : KeepsValid Reduces = λ g h valid (applications, is). c.strategies_keep_the_meaning.ensures.valid g applications h valid is in
    let means : KeepsSame Reduces = λ g h valid (applications, is). c.strategies_keep_the_meaning.ensures.same g applications h valid is in
    round-same c.narrowed_models_mean_the_same.ensures.valid reduce c.narrowed_models_mean_the_same.ensures.same means c.fusing_ends.ensures.same c.sameness_is_a_preorder.ensures.transitive

pub returns-clause-declared : goal.returns-clause-declared
returns-clause-declared c = λ g h valid made.
    let parts = ((c.validity_is_by_parts.ensures.by_parts g).0 valid).0.parts in
    let left = ((c.validity_is_by_parts.ensures.by_parts h).0 (returns-clause-valid c g h valid made)).0.parts in
    same-declares g h (round-declares g h made) parts left (returns-clause-same c g h valid made)
