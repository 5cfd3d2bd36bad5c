use Rattle.run_laws.proofs.SameLaws.{same_refl, same_trans}
use Rattle.run_laws.proofs.sameness.sameness_is_a_preorder.Goals as goal

pub returns-clause-reflexive : goal.returns-clause-reflexive
returns-clause-reflexive c = same_refl

pub returns-clause-transitive : goal.returns-clause-transitive
returns-clause-transitive c = same_trans
