-- Dropped are the vertices of these names.
use Rattle.std.proofs.Common.{◌≡◌, ◌∙◌, ℕ, Bool, List, Some, None, cond, Result, Ok, IfOk, sym, ap, subst}
use Rattle.sig_base.specs.declared.no_memory.NoMemory.{NoMemory}
use Rattle.model_core.specs.Code.Views.{graph_of}
use Rattle.model_core.specs.Rules.Conditions.{first_failed}
use Rattle.model_core.specs.Rules.Drop.{drop_conditions, dropped}
use Rattle.model_core.specs.Rules.Reduction.{vertices_named, unless_failed}
use Rattle.model_facts.specs.FactsOfModel.{FactsAreRight}
use Rattle.reduction_cert.proofs.PlacesByTable.{all_by_table}
use Rattle.reduction_cert.proofs.RuleAnswers.{answer-result, made-none_failed, made-is_result, facts_kept, drop_named}
use Rattle.reduction_cert.proofs.checking.apply_drop.Goals as goal

pub returns-clause-made : goal.returns-clause-made
returns-clause-made c =
    let g = graph_of c.args.model.now in
    let h = graph_of c.drop_vertices.new.model in
    let vs = c.in-Some.dropped in
    let failed = first_failed (drop_conditions g vs) in
    let named : vertices_named g c.args.names.now ≡ Some vs = sym (c.in_ok-dropped.ensures ∙ all_by_table _ _ _ c.requires.listed) ∙ c.in-Some.is in
    let answered : unless_failed failed (dropped g vs) ≡ cond c.in_ok-made.made (Some h) None
    = subst (λ (answer : Result Bool NoMemory). IfOk answer (λ made. unless_failed failed (dropped g vs) ≡ cond made (Some h) None)) c.in_ok-made.was
    (answer-result (dropped g vs) h failed c.drop_vertices.result c.drop_vertices.ensures.done c.drop_vertices.ensures.refused c.was_applied.result c.was_applied.ensures.made c.was_applied.ensures.refused) in
    drop_named g c.args.names.now vs named ∙ answered ∙ ap (λ made. cond made (Some h) None) (sym c.keep_facts_if_made.ensures.is)

pub returns-clause-facts : goal.returns-clause-facts
returns-clause-facts c =
    let g = graph_of c.args.model.now in
    let h = graph_of c.drop_vertices.new.model in
    let vs = c.in-Some.dropped in
    let failed = first_failed (drop_conditions g vs) in
    let answered : failed ≡ None → FactsAreRight (dropped g vs) c.keep_after_drop.new.facts = subst (λ (vs : List ℕ). first_failed (drop_conditions g vs) ≡ None → FactsAreRight (dropped g vs) c.keep_after_drop.new.facts) c.as_slice.ensures c.keep_after_drop.ensures.facts in
    facts_kept (dropped g vs) h failed c.in_ok-made.made c.keep_after_drop.new.facts c.keep_facts_if_made.new.facts
    (λ is.
    let ok = c.was_applied.ensures.made (c.in_ok-made.was ∙ ap Ok is) in (
      made-none_failed (dropped g vs) h failed c.drop_vertices.result c.drop_vertices.ensures.done c.drop_vertices.ensures.refused ok,
      made-is_result (dropped g vs) h failed c.drop_vertices.result c.drop_vertices.ensures.done c.drop_vertices.ensures.refused ok,
    ))
    answered c.keep_facts_if_made.ensures.kept c.keep_facts_if_made.ensures.forgotten
