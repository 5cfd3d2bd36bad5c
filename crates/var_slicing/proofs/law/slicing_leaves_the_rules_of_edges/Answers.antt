use Rattle.var_slicing.proofs.BoundsRenumbered.{first_prune-sliced, first_settle-sliced}
use Rattle.var_slicing.proofs.law.slicing_leaves_the_rules_of_edges.Goals as goal

pub returns-clause-prune : goal.returns-clause-prune
returns-clause-prune c = λ g variables valid none.
    let (rules, spellable) = (c.validity_is_by_parts.ensures.by_parts g).0 valid in
    first_prune-sliced g rules.parts spellable variables none

pub returns-clause-settle : goal.returns-clause-settle
returns-clause-settle c = λ g variables valid none.
    let (rules, spellable) = (c.validity_is_by_parts.ensures.by_parts g).0 valid in
    first_settle-sliced g rules.parts spellable variables none
