use Rattle.std.proofs.Common.{map, ap₂, ◌∙◌, ◌++◌, [], ◌∷◌, List, ℕ}
use Rattle.model_core.specs.Code.Views.{application_of}
use Rattle.model_core.specs.Rules.Reduction.{Merge}
use Rattle.reducer.proofs.RuleByRule.{noted_more}
use Rattle.reducer.proofs.later_rules.note_merge.Goals as goal

pub returns : goal.returns
returns c =
    noted_more _ _ _ c.in_ok-push.ensures.items ∙ ap₂ (λ (name other : List ℕ). map application_of c.args.applications.now.items ++ Merge name other ∷ []) c.in_ok-vertex.ensures c.in_ok-target.ensures
