-- One application after the other, each the first rule's: what the code's loop keeps, and the strategy's end.
use Rattle.std.proofs.Common.{◌≡◌, ℕ, ◌<◌, Bool, true, false, List, [], ◌∷◌, ◌++◌, map, Option, Some, None, Result, Ok, Err, OnOk, IfOk, IfErr, refl, sym, ap, ◌∙◌, subst, append_assoc, arith}
use Rattle.sig_base.specs.declared.no_memory.NoMemory.{NoMemory}
use Rattle.model_core.specs.declared.application.Application.{Application}
use Rattle.model_core.specs.declared.rule_error.RuleError.{RuleError}
use Rattle.model_core.specs.declared.rule_error.RuleError.TheVariants as errors
use Rattle.model_core.specs.Code.Views.{application_of}
use Rattle.model_core.specs.EventGraph.{EventGraph}
use Rattle.model_core.specs.Static.Reading.{IsValid}
use Rattle.model_core.specs.Rules.RefusedCondition.{NamesCondition}
use Rattle.model_core.specs.Rules.Reduction.{RuleApplication, applied, first_rule, Strategy}
use Rattle.reducer.specs.Inner.LaterRules.{NoEdgeRule, MadeAndNoted, DropMayFollow, nothing_more, dropped_too, MadeThenDrop, IsStrategyNoted, LeavesEdges}
use Rattle.reducer.proofs.FirstLaterRule.{drop_is_made}
use Rattle.reducer.proofs.FirstRules.{AreFirst, are_first-append, are_first-strategy}
use Rattle.reducer.proofs.NoEdgeRuleAnew.{none-applied}
use Rattle.reducer.proofs.StrategyEnds.{measure, MergesTakeOne, applied_leaves_less}

-- first rules led from one graph to another and were noted, and the rules of edges don't apply to this one
pub record Led (g h : EventGraph) (before after : List RuleApplication) : Type 0 where
  pub later : List RuleApplication
  pub noted : after ≡ before ++ later
  pub first : AreFirst g later h
  pub valid : IsValid h
  pub none : NoEdgeRule h

append_nothing : (xs : List RuleApplication) → xs ≡ xs ++ []
append_nothing [] = refl
append_nothing (x ∷ xs) = ap (λ xs. x ∷ xs) (append_nothing xs)

led_on : LeavesEdges → ((g h : EventGraph) (a : RuleApplication) → IsValid g → applied g a ≡ Some h → IsValid h) → (g h k : EventGraph) (before between after : List RuleApplication) (made : Bool) → made ≡ true → Led g h before between → MadeAndNoted (first_rule h) made h k between after → Led g k before after
led_on leaves one_valid g h k before between after true e led (a, is, made, noted) = record {
  later = led.later ++ a ∷ [];
  noted = noted ∙ ap (λ (xs : List RuleApplication). xs ++ a ∷ []) led.noted ∙ append_assoc before led.later (a ∷ []);
  first = are_first-append led.later (a ∷ []) g h k led.first (is, k, made, refl);
  valid = one_valid h k a led.valid made;
  none = none-applied leaves h k a led.valid led.none is made;
}
led_on leaves one_valid g h k before between after false e led made = cc

-- where the drop after the application may be made as well
module _ (leaves : LeavesEdges) (one_valid : (g h : EventGraph) (a : RuleApplication) → IsValid g → applied g a ≡ Some h → IsValid h) where
  pub led_further : (g h k : EventGraph) (before between after : List RuleApplication) (made : Bool) → made ≡ true → Led g h before between → MadeThenDrop first_rule made h k between after → Led g k before after
  led_further g h k before between after false e led made = cc
  led_further g h k before between after true e led (next, middle, first, more) = then_drop more (led_on leaves one_valid g h next before between middle true refl led first) where
    then_drop : DropMayFollow next k middle after → Led g next before middle → Led g k before after
    then_drop (nothing_more same unnoted) led = subst (λ (k : EventGraph). Led g k before after) (sym same) (subst (λ (as_ : List RuleApplication). Led g next before as_) (sym unnoted) led)
    then_drop (dropped_too drop) led = led_on leaves one_valid g next k before middle after true refl led (drop_is_made next k middle after led.none true refl drop)

  pub leaves_less : MergesTakeOne → (g h k : EventGraph) (before between after : List RuleApplication) (made : Bool) → made ≡ true → Led g h before between → MadeThenDrop first_rule made h k between after → measure k < measure h
  leaves_less takes g h k before between after false e led made = cc
  leaves_less takes g h k before between after true e led (next, middle, first, more) = then_drop more where
    one_less : (h k : EventGraph) (between after : List RuleApplication) → NoEdgeRule h → MadeAndNoted (first_rule h) true h k between after → measure k < measure h
    one_less h k between after none (a, is, made, noted) = applied_leaves_less takes h k a none is made

    fewer : measure next < measure h
    fewer = one_less h next between middle led.none first

    then_drop : DropMayFollow next k middle after → measure k < measure h
    then_drop (nothing_more same unnoted) = subst (λ (k : EventGraph). measure k < measure h) (sym same) fewer
    then_drop (dropped_too drop) =
        let none = (led_on leaves one_valid g h next before between middle true refl led first).none in
        let fewer_still = one_less next k middle after none (drop_is_made next k middle after none true refl drop) in
        omega (arith, fewer, fewer_still)

pub led_to_the_end : (g h k : EventGraph) (before between after : List RuleApplication) (made : Bool) → made ≡ false → Led g h before between → MadeThenDrop first_rule made h k between after → IsStrategyNoted g k before after
led_to_the_end g h k before between after true e led made = cc
led_to_the_end g h k before between after false e led (no_rule, same, unnoted) = (
  led.later,
  unnoted ∙ led.noted,
  subst (λ (xs : List RuleApplication). Strategy g xs k) (sym (append_nothing led.later)) (are_first-strategy led.later [] g h k led.first (no_rule, sym same)),
)

-- ---- one application in code

pub answer_of : {P Q : Bool → Type 0} (answer : Result Bool NoMemory) → ((made : Bool) → P made → Q made) → IfOk answer P → IfOk answer Q
answer_of (Ok made) to holds = to made holds
answer_of (Err e) to holds = tt

-- what is known of any answer is so of this one
pub of_answer : (P : Bool → Type 0) (answer : Result Bool NoMemory) (made : Bool) → answer ≡ Ok made → IfOk answer P → P made
of_answer P answer made is holds = subst (λ (r : Result Bool NoMemory). IfOk r P) is holds

pub noted_more : (old new : List Application) (x : Application) → new ≡ old ++ x ∷ [] → map application_of new ≡ map application_of old ++ application_of x ∷ []
noted_more old new x is = ap (map application_of) is ∙ more old where
  more : (old : List Application) → map application_of (old ++ x ∷ []) ≡ map application_of old ++ application_of x ∷ []
  more [] = refl
  more (y ∷ old) = ap (λ ys. application_of y ∷ ys) (more old)

-- a rule whose conditions hold isn't refused
pub not_refused : {A : Type 0} (given : Result A RuleError) (condition : ℕ) (failed : Option ℕ) → given ≡ Err (errors.Refused condition) → IfErr given (λ e. NamesCondition e failed) → failed ≡ None → ⊥
not_refused given condition failed is refused_so holds =
    let fails : failed ≡ Some condition = subst (λ (r : Result _ RuleError). IfErr r (λ e. NamesCondition e failed)) is refused_so in cc

pub answer_made : (one : Option RuleApplication) (g h : EventGraph) (before after : List RuleApplication) {P : Type 0} {failed : Option ℕ} (answer : Result Bool NoMemory) (given : Result (Unit {0}) RuleError)
    → (answer ≡ Ok true → given ≡ Ok tt) → (answer ≡ Ok false → (condition : ℕ) × (given ≡ Err (errors.Refused condition)))
    → OnOk given P → IfErr given (λ e. NamesCondition e failed) → failed ≡ None → (P → MadeAndNoted one true g h before after)
    → IfOk answer (λ made. MadeAndNoted one made g h before after)
answer_made one g h before after {P} (Ok true) given made refused done refused_so holds makes = makes (subst (λ (r : Result (Unit {0}) RuleError). OnOk r P) (made refl) done)
answer_made one g h before after {failed} (Ok false) given made refused done refused_so holds makes =
    let (condition, is) = refused refl in absurd (not_refused given condition failed is refused_so holds)
answer_made one g h before after (Err e) given made refused done refused_so holds makes = tt
