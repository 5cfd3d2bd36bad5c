use Rattle.normal_form.specs.declared.limits.TheConstants.{ROUNDS_MAX}
use Rattle.normal_form.proofs.NormalLaws.{normal-ends, normal-once, normal-valid, normal-same, normal-declared}
use Rattle.normal_form.proofs.law.normal_forms_keep_the_meaning.Goals as goal

pub returns-clause-exists : goal.returns-clause-exists
returns-clause-exists c = normal-ends c.rounds_keep_the_meaning.ensures.exists c.rounds_keep_the_meaning.ensures.valid ROUNDS_MAX

pub returns-clause-determined : goal.returns-clause-determined
returns-clause-determined c = normal-once c.rounds_keep_the_meaning.ensures.determined ROUNDS_MAX

pub returns-clause-valid : goal.returns-clause-valid
returns-clause-valid c = normal-valid c.rounds_keep_the_meaning.ensures.valid ROUNDS_MAX

pub returns-clause-same : goal.returns-clause-same
returns-clause-same c = normal-same c.rounds_keep_the_meaning.ensures.valid c.rounds_keep_the_meaning.ensures.same c.sameness_is_a_preorder.ensures.reflexive c.sameness_is_a_preorder.ensures.transitive ROUNDS_MAX

pub returns-clause-declared : goal.returns-clause-declared
returns-clause-declared c = normal-declared c.rounds_keep_the_meaning.ensures.valid c.rounds_keep_the_meaning.ensures.declared ROUNDS_MAX
