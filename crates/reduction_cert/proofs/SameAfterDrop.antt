-- A drop of the second vertex of a merge makes the same of the result, whether that vertex has given away what it does or not.
use Rattle.std.proofs.Common.{◌≡◌, ℕ, suc, Bool, true, false, cond, List, [], ◌∷◌, Option, Some, None, Result, Ok, Err, OnOk, IfOk, IfErr, length, get_or, refl, sym, ap, ap₂, arith, ◌∙◌, subst}
use Rattle.std.specs.Option.{option_map, option_map_or, option_and_then}
use Rattle.sig_base.specs.declared.no_memory.NoMemory.{NoMemory}
use Rattle.model_core.specs.declared.rule_error.RuleError.{RuleError}
use Rattle.model_core.specs.declared.rule_error.RuleError.TheVariants as errors
use Rattle.model_core.specs.EventGraph.{EventGraph, EventVertex}
use Rattle.model_core.specs.Run.Step.{vertex_at}
use Rattle.model_core.specs.Text.Numbering.{declared_place}
use Rattle.model_core.specs.Rules.Conditions.{first_failed}
use Rattle.model_core.specs.Rules.RefusedCondition.{NamesCondition}
use Rattle.model_core.specs.Rules.Drop.{drop_conditions, dropped}
use Rattle.model_core.specs.Rules.Merge.{merge_conditions, merged_with, merged}
use Rattle.model_core.specs.Rules.Reduction.{RuleApplication, Drop, Merge, place_of_vertex, vertices_named, two_vertices_named, unless_failed, applied, first_bad}
use Rattle.model_core.specs.Rules.Verdict.{graph_reached}
use Rattle.model_core.specs.Rules.PlacedEdges.{with_vertex}
use Rattle.merge_rules.specs.Hollowed.{hollow, hollowed, merged_leaving}
use Rattle.merge_rules.specs.declared.taking_over.SecondVertex.{SecondVertex}
use Rattle.merge_rules.specs.declared.taking_over.SecondVertex.TheVariants as seconds
use Rattle.reduction_cert.specs.Inner.MergeBeforeDrop.{HaveOneResult, MadeInEffect, MergeIsMade}
use Rattle.vertex_laws.proofs.MergedNames.{name_stays}
use Rattle.reduction_cert.proofs.NamesKept.{placed_kept}
use Rattle.reduction_cert.proofs.RuleAnswers.{made-none_failed, made-is_result, drop_named, merge_named}

-- the place of the second name
second_named : (o p : Option ℕ) (first second : ℕ) → option_and_then {U = ℕ × ℕ} (λ (k : ℕ). option_map (λ (j : ℕ). (k, j)) p) o ≡ Some (first, second) → p ≡ Some second
second_named None p first second e = cc
second_named (Some k) None first second e = cc
second_named (Some k) (Some j) first second e = ap Some (ap (λ (o : Option (ℕ × ℕ)). option_map_or (λ ((a, b) : ℕ × ℕ). b) o j) e)

-- a name alone
alone_named : (g : EventGraph) (name : List ℕ) (place : ℕ) → place_of_vertex name g.vertices ≡ Some place → vertices_named g (name ∷ []) ≡ Some (place ∷ [])
alone_named g name place is = ap (option_and_then (λ (y : ℕ). option_and_then (λ (ys : List ℕ). Some (y ∷ ys)) (Some []))) is

module _ (conditions : (g : EventGraph) (f : EventVertex → EventVertex) (gone : ℕ) → drop_conditions (with_vertex f gone g) (gone ∷ []) ≡ drop_conditions g (gone ∷ []))
    (left : (g : EventGraph) (f : EventVertex → EventVertex) (gone : ℕ) → dropped (with_vertex f gone g) (gone ∷ []) ≡ dropped g (gone ∷ [])) where
  given_serves : (g : EventGraph) (name target : List ℕ) (rest : List RuleApplication) (first second : ℕ) → two_vertices_named g name target ≡ Some (first, second)
      → HaveOneResult (Drop (target ∷ []) ∷ rest) (merged g first second) (hollowed (merged g first second) second)
  given_serves g name target rest first second named =
      let m = merged g first second in
      let h = hollowed m second in
      let at_g : place_of_vertex target g.vertices ≡ Some second = second_named (place_of_vertex name g.vertices) (place_of_vertex target g.vertices) first second named in
      let at_m : place_of_vertex target m.vertices ≡ Some second =
      ap (declared_place target) (placed_kept (merged_with (vertex_at g second)) (name_stays (vertex_at g second)) first g.vertices) ∙ at_g in
      let names = placed_kept hollow (λ v. refl) second m.vertices in
      let at_h : place_of_vertex target h.vertices ≡ Some second = ap (declared_place target) names ∙ at_m in
      let same : applied m (Drop (target ∷ [])) ≡ applied h (Drop (target ∷ [])) =
      drop_named m (target ∷ []) (second ∷ []) (alone_named m target second at_m)
      ∙ ap₂ (λ (conditions : List Bool) (result : EventGraph). unless_failed (first_failed conditions) result) (sym (conditions m hollow second)) (sym (left m hollow second))
      ∙ sym (drop_named h (target ∷ []) (second ∷ []) (alone_named h target second at_h)) in
      record {
        bad = ap (λ (o : Option EventGraph). option_map_or (λ next. option_map suc (first_bad next rest)) o (Some 1)) same;
        reached = ap (option_and_then (λ next. graph_reached next rest)) same;
        names = sym names;
        variables = refl;
      }

  pub made_for : (g : EventGraph) (name target : List ℕ) (later rest : List RuleApplication) (made : Bool) (h : EventGraph) → later ≡ Drop (target ∷ []) ∷ rest → MergeIsMade seconds.GivesAway g name target made h → MadeInEffect later g (Merge name target) made h
  made_for g name target later rest true h is (first, second, named, holds, same) = (
    merged g first second,
    merge_named g name target first second named ∙ ap (λ o. unless_failed o (merged g first second)) holds,
    subst (λ (as_ : List RuleApplication). HaveOneResult as_ (merged g first second) h) (sym is)
        (subst (HaveOneResult (Drop (target ∷ []) ∷ rest) (merged g first second)) (sym same) (given_serves g name target rest first second named)),
  )
  made_for g name target later rest false h is refused = refused

-- what the rule's answer says
pub merge-answer : (second : SecondVertex) (g : EventGraph) (name target : List ℕ) (first last : ℕ) (h : EventGraph) → two_vertices_named g name target ≡ Some (first, last) → (given : Result (Unit {0}) RuleError)
    → OnOk given ((first_failed (merge_conditions g first last) ≡ None) × (h ≡ merged_leaving second g first last))
    → IfErr given (λ e. NamesCondition e (first_failed (merge_conditions g first last)))
    → (answer : Result Bool NoMemory) → (answer ≡ Ok true → given ≡ Ok tt) → (answer ≡ Ok false → (condition : ℕ) × (given ≡ Err (errors.Refused condition)))
    → IfOk answer (λ made. MergeIsMade second g name target made h)
merge-answer second g name target first last h named given done refused_so (Ok true) made refused =
    let result = merged_leaving second g first last in
    let failed = first_failed (merge_conditions g first last) in
    (first, last, named, made-none_failed result h failed given done refused_so (made refl), made-is_result result h failed given done refused_so (made refl))
merge-answer second g name target first last h named given done refused_so (Ok false) made refused =
    let (condition, is) = refused refl in
    let fails : first_failed (merge_conditions g first last) ≡ Some condition = subst (λ (r : Result (Unit {0}) RuleError). IfErr r (λ e. NamesCondition e (first_failed (merge_conditions g first last)))) is refused_so in
    merge_named g name target first last named ∙ ap (λ o. unless_failed o (merged g first last)) fails
merge-answer second g name target first last h named given done refused_so (Err e) made refused = tt

-- where the second one stays, that is the rule's application
pub merge_applied : (g : EventGraph) (name target : List ℕ) (made : Bool) (h : EventGraph) → MergeIsMade seconds.Stays g name target made h → applied g (Merge name target) ≡ cond made (Some h) None
merge_applied g name target true h (first, last, named, holds, same) = merge_named g name target first last named ∙ ap (λ o. unless_failed o (merged g first last)) holds ∙ ap Some (sym same)
merge_applied g name target false h refused = refused

-- ---- the next application

pub only_one : {A : Type 0} (xs : List A) (x : A) → length xs ≡ 1 → x ≡ get_or xs 0 x → xs ≡ x ∷ []
only_one [] x one at = absurd (omega (arith, one))
only_one (y ∷ []) x one at = ap (λ z. z ∷ []) (sym at)
only_one (y ∷ z ∷ xs) x one at = absurd (omega (arith, one))

-- ---- whether an application was made

pub was_made : (later : List RuleApplication) (g : EventGraph) (a : RuleApplication) (made : Bool) (h : EventGraph) → made ≡ true → MadeInEffect later g a made h → MadeInEffect later g a true h
was_made later g a true h e is = is
was_made later g a false h e is = cc

pub was_refused : (later : List RuleApplication) (g : EventGraph) (a : RuleApplication) (made : Bool) (h : EventGraph) → made ≡ false → MadeInEffect later g a made h → applied g a ≡ None
was_refused later g a true h e is = cc
was_refused later g a false h e is = is
