-- Seven conditions hold, and the last one fails or holds, or one of the seven fails.
use Rattle.std.proofs.Common.{◌≡◌, ◌∙◌, ℕ, Bool, Option, Some, None, cond, refl, sym, take}
use Rattle.std.specs.Option.{option_or}
use Rattle.model_core.specs.EventGraph.{EventGraph}
use Rattle.model_core.specs.Rules.Conditions.{first_failed}
use Rattle.model_core.specs.Rules.Merge.{merge_conditions, merged, is_within_limits}
use Rattle.model_core.specs.Code.Views.{graph_of}
use Rattle.merge_rules.proofs.ConditionsAsked.PairsFound.{with_last}
use Rattle.merge_rules.proofs.merging.failed_merge.Goals as goal

all_eight : (g : EventGraph) (first second : ℕ) {front : Option ℕ} {last : Bool} → front ≡ first_failed (take 7 (merge_conditions g first second)) → last ≡ is_within_limits (merged g first second) first
    → option_or front (cond last None (Some 8)) ≡ first_failed (merge_conditions g first second)
all_eight g first second front last = (λ i. option_or (front i) (cond (last i) None (Some 8))) ∙ with_last (take 7 (merge_conditions g first second)) (is_within_limits (merged g first second) first)

pub returns-else-is_within_limits-clause-failed : goal.returns-else-is_within_limits-clause-failed
returns-else-is_within_limits-clause-failed t c =
    all_eight (graph_of c.args.model.now) c.args.first c.args.second (sym c.in_default.is ∙ c.failed_before_limits.ensures.failed) (sym c.if-is_within_limits.false ∙ c.is_within_limits.ensures.is)

pub returns-then-is_within_limits-clause-failed : goal.returns-then-is_within_limits-clause-failed
returns-then-is_within_limits-clause-failed t c =
    all_eight (graph_of c.args.model.now) c.args.first c.args.second (sym c.in_default.is ∙ c.failed_before_limits.ensures.failed) (sym c.if-is_within_limits.true ∙ c.is_within_limits.ensures.is)

pub returns-in-Some-clause-failed : goal.returns-in-Some-clause-failed
returns-in-Some-clause-failed t c = all_eight (graph_of c.args.model.now) c.args.first c.args.second (sym c.in-Some.is ∙ c.failed_before_limits.ensures.failed) refl
