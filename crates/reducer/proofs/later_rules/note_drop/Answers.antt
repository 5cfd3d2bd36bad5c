use Rattle.std.proofs.Common.{map, ap, ◌∙◌, ◌++◌, [], ◌∷◌, List, ℕ}
use Rattle.model_core.specs.Code.Views.{graph_of, application_of}
use Rattle.model_core.specs.Rules.Reduction.{Drop}
use Rattle.model_core.specs.Text.Canonical.{vertex_name}
use Rattle.reducer.proofs.RuleByRule.{noted_more}
use Rattle.reducer.proofs.later_rules.note_drop.Goals as goal

pub returns : goal.returns
returns c =
    let g = graph_of c.args.model.now in
    noted_more _ _ _ c.in_ok-push.ensures.items ∙ ap (λ (names : List (List ℕ)). map application_of c.args.applications.now.items ++ Drop names ∷ []) (c.from_vec.ensures ∙ c.in_ok-names.ensures ∙ ap (map (vertex_name g)) c.as_slice.ensures)
