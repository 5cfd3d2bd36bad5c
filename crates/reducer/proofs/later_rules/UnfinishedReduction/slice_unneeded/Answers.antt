-- Sliced away and noted are the variables that aren't needed, and there is one at least.
use Rattle.std.proofs.Common.{◌≡◌, map, ap, length, ◌∙◌, ◌++◌, [], ◌∷◌, List, ℕ}
use Rattle.model_core.specs.Code.Views.{graph_of, application_of}
use Rattle.model_core.specs.Rules.Reduction.{Slice}
use Rattle.model_core.specs.Text.Canonical.{variable_name}
use Rattle.reducer.proofs.FirstLaterRule.{exactly_hold, slice_made}
use Rattle.reducer.proofs.RuleByRule.{noted_more, answer_made, of_answer}
use Rattle.reducer.proofs.later_rules.UnfinishedReduction.slice_unneeded.Goals as goal

pub returns : goal.returns
returns c =
    let g = graph_of c.args.self.now.model in
    let listed = c.in_ok-vars.ensures in
    let some : length c.in_ok-vars.vars ≡ 0 → ⊥ = λ none. c.if-len-eq0.false (c.len.ensures ∙ none) in record {
      made = of_answer _ c.was_applied.result _ c.in_ok-made.was
          (answer_made _ _ _ _ _ c.was_applied.result c.slice.result c.was_applied.ensures.made c.was_applied.ensures.refused c.slice.ensures.done c.slice.ensures.refused
          (exactly_hold _ _ some listed)
          (λ done. slice_made g _ _ _ _ c.requires.valid some listed done.1 (noted_more _ _ _ c.in_ok-push.ensures.items ∙ ap (λ (names : List (List ℕ)). map application_of c.args.self.now.applications.items ++ Slice names ∷ []) (c.from_vec.ensures ∙ c.in_ok-names.ensures ∙ ap (map (variable_name g)) c.as_slice.ensures))));
      progress = c.in_ok-self.ensures;
      pairs = c.in_ok-self-2.ensures;
    }
