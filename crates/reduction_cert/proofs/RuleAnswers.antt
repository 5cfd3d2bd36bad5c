-- What a rule's answer says of its application.
use Rattle.std.proofs.Common.{◌≡◌, ℕ, Bool, true, false, cond, List, Option, Some, None, Result, Ok, Err, is_ok, OnOk, IfOk, IfErr, refl, sym, ap, ◌∙◌, subst}
use Rattle.std.specs.Option.{option_map_or}
use Rattle.sig_base.specs.declared.no_memory.NoMemory.{NoMemory}
use Rattle.model_core.specs.declared.rule_error.RuleError.{RuleError}
use Rattle.model_core.specs.declared.rule_error.RuleError.TheVariants as errors
use Rattle.model_core.specs.EventGraph.{EventGraph}
use Rattle.model_core.specs.Rules.Conditions.{first_failed}
use Rattle.model_core.specs.Rules.RefusedCondition.{NamesCondition}
use Rattle.model_core.specs.Rules.Drop.{drop_conditions, dropped}
use Rattle.model_core.specs.Rules.Merge.{merge_conditions, merged}
use Rattle.model_core.specs.Rules.Reduction.{Prune, Settle, Drop, Merge, edge_named, vertices_named, two_vertices_named, unless_failed, applied}
use Rattle.model_core.specs.Rules.Prune.{prune_conditions, pruned}
use Rattle.model_core.specs.Rules.Settle.{settle_conditions, settled}
use Rattle.edge_pruning.specs.declared.finding.EdgeRule.{EdgeRule}
use Rattle.edge_pruning.specs.declared.finding.EdgeRule.TheVariants as rules
use Rattle.model_facts.specs.FactsOfModel.{FactsAreRight}
use Rattle.reduction_cert.specs.EdgeApplications.{application_by}
use Rattle.model_facts.specs.declared.facts.FactsOfModel.{FactsOfModel}

module _ (result h : EventGraph) (failed : Option ℕ) (given : Result (Unit {0}) RuleError) (done : OnOk given ((failed ≡ None) × (h ≡ result))) (refused_so : IfErr given (λ e. NamesCondition e failed)) where
  pub made-result : given ≡ Ok tt → unless_failed failed result ≡ Some h
  made-result is =
      let (holds, same) = subst (λ (r : Result (Unit {0}) RuleError). OnOk r ((failed ≡ None) × (h ≡ result))) is done in
      ap (λ o. unless_failed o result) holds ∙ ap Some (sym same)

  pub made-none_failed : given ≡ Ok tt → failed ≡ None
  made-none_failed is = (subst (λ (r : Result (Unit {0}) RuleError). OnOk r ((failed ≡ None) × (h ≡ result))) is done).0

  pub made-is_result : given ≡ Ok tt → h ≡ result
  made-is_result is = (subst (λ (r : Result (Unit {0}) RuleError). OnOk r ((failed ≡ None) × (h ≡ result))) is done).1

  pub refused-no_result : (condition : ℕ) → given ≡ Err (errors.Refused condition) → unless_failed failed result ≡ None
  refused-no_result condition is =
      let fails : failed ≡ Some condition = subst (λ (r : Result (Unit {0}) RuleError). IfErr r (λ e. NamesCondition e failed)) is refused_so in
      ap (λ o. unless_failed o result) fails

  pub answer-result : (answer : Result Bool NoMemory) → (answer ≡ Ok true → given ≡ Ok tt) → (answer ≡ Ok false → (condition : ℕ) × (given ≡ Err (errors.Refused condition))) → IfOk answer (λ made. unless_failed failed result ≡ cond made (Some h) None)
  answer-result (Ok true) made refused = made-result (made refl)
  answer-result (Ok false) made refused = let (condition, is) = refused refl in refused-no_result condition is
  answer-result (Err e) made refused = tt

-- what a rule of one edge gives
pub edge_made : {E : Type 0} (result h : EventGraph) (failed : Option ℕ) (condition : E → ℕ) (given : Result (Unit {0}) E) → OnOk given ((failed ≡ None) × (h ≡ result)) → IfErr given (λ e. failed ≡ Some (condition e)) → unless_failed failed result ≡ cond (is_ok given) (Some h) None
edge_made result h failed condition (Ok done) (holds, same) fails = ap (λ o. unless_failed o result) holds ∙ ap Some (sym same)
edge_made result h failed condition (Err e) held fails = ap (λ o. unless_failed o result) fails

pub ok-holds : {P E : Type 0} (given : Result (Unit {0}) E) → is_ok given ≡ true → OnOk given P → P
ok-holds (Ok done) made p = p
ok-holds (Err e) made p = cc

-- what was found before a rule holds of the rule's result, and where there is none it is forgotten
pub facts_kept : (result h : EventGraph) (failed : Option ℕ) (made : Bool) (before facts : FactsOfModel) → (made ≡ true → (failed ≡ None) × (h ≡ result)) → (failed ≡ None → FactsAreRight result before)
    → (made ≡ true → facts ≡ before) → (made ≡ false → (g : EventGraph) → FactsAreRight g facts) → FactsAreRight h facts
facts_kept result h failed true before facts done is kept forgotten =
    let (holds, same) = done refl in
    subst (λ (g : EventGraph). FactsAreRight g facts) (sym same) (subst (FactsAreRight result) (sym (kept refl)) (is holds))
facts_kept result h failed false before facts done is kept forgotten = forgotten refl h

-- where the names of an application name vertices, it gives what the rule gives of these
pub drop_named : (g : EventGraph) (names : List (List ℕ)) (vertices : List ℕ) → vertices_named g names ≡ Some vertices → applied g (Drop names) ≡ unless_failed (first_failed (drop_conditions g vertices)) (dropped g vertices)
drop_named g names vertices is = ap (λ o. unless_failed (option_map_or (λ vs. first_failed (drop_conditions g vs)) o (Some 2)) (option_map_or (λ vs. dropped g vs) o g)) is

pub prune_named : (g : EventGraph) (name : List ℕ) (number vertex edge : ℕ) → edge_named g name number ≡ Some (vertex, edge) → applied g (Prune name number) ≡ unless_failed (first_failed (prune_conditions g vertex edge)) (pruned g vertex edge)
prune_named g name number vertex edge is = ap (λ o. unless_failed (option_map_or (λ (v, e). first_failed (prune_conditions g v e)) o (Some 1)) (option_map_or (λ (v, e). pruned g v e) o g)) is

pub settle_named : (g : EventGraph) (name : List ℕ) (number vertex edge : ℕ) → edge_named g name number ≡ Some (vertex, edge) → applied g (Settle name number) ≡ unless_failed (first_failed (settle_conditions g vertex edge)) (settled g vertex edge)
settle_named g name number vertex edge is = ap (λ o. unless_failed (option_map_or (λ (v, e). first_failed (settle_conditions g v e)) o (Some 1)) (option_map_or (λ (v, e). settled g v e) o g)) is

-- where they name no edge, it gives nothing
pub none_named : (g : EventGraph) (rule : EdgeRule) (name : List ℕ) (number : ℕ) → edge_named g name number ≡ None → applied g (application_by rule name number) ≡ None
none_named g rules.Prune name number is = ap (λ o. unless_failed (option_map_or (λ (v, e). first_failed (prune_conditions g v e)) o (Some 1)) (option_map_or (λ (v, e). pruned g v e) o g)) is
none_named g rules.Settle name number is = ap (λ o. unless_failed (option_map_or (λ (v, e). first_failed (settle_conditions g v e)) o (Some 1)) (option_map_or (λ (v, e). settled g v e) o g)) is

pub merge_named : (g : EventGraph) (name target : List ℕ) (first second : ℕ) → two_vertices_named g name target ≡ Some (first, second) → applied g (Merge name target) ≡ unless_failed (first_failed (merge_conditions g first second)) (merged g first second)
merge_named g name target first second is = ap (λ o. unless_failed (option_map_or (λ (a, b). first_failed (merge_conditions g a b)) o (Some 1)) (option_map_or (λ (a, b). merged g a b) o g)) is

-- what holds anyway holds of an answer
pub holds_anyway : {P : Type 0} (answer : Result Bool NoMemory) → P → OnOk answer P
holds_anyway (Ok made) p = p
holds_anyway (Err e) p = tt
