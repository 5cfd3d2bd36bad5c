-- A model that is known to be single urgent stays so.
use Rattle.std.proofs.Common.{◌∙◌, Some, sym, subst}
use Rattle.model_facts.specs.FactsOfModel.{SingleIsRight}
use Rattle.vertex_laws.proofs.ApartVertices.{dropped_single}
use Rattle.model_facts.proofs.EdgesChanged.{pruned_single}
use Rattle.model_facts.proofs.facts.FactsOfModel.single_without_parts.Goals as goal

pub returns-in-Some-clause-dropped : goal.returns-in-Some-clause-dropped
returns-in-Some-clause-dropped c = λ g vertices is.
    let right : SingleIsRight g (Some c.in-Some.single) = subst (SingleIsRight g) c.in-Some.is is.single in
    c.if-single.true ∙ sym (dropped_single g vertices (sym right ∙ c.if-single.true))

pub returns-in-Some-clause-pruned : goal.returns-in-Some-clause-pruned
returns-in-Some-clause-pruned c = λ g vertex edge is.
    let right : SingleIsRight g (Some c.in-Some.single) = subst (SingleIsRight g) c.in-Some.is is.single in
    c.if-single.true ∙ sym (pruned_single g vertex edge (sym right ∙ c.if-single.true))
