-- A model while rules are applied to it: what is right of it, and the result of one rule.
use Rattle.std.specs.Prelude.{ℕ, Bool, Option, map, [], ◌∷◌, ◌++◌}
use Rattle.model_core.specs.EventGraph.{EventGraph}
use Rattle.model_core.specs.Static.Reading.{IsValid}
use Rattle.model_core.specs.Code.Views.{graph_of, application_of}
use Rattle.model_core.specs.Rules.Reached.{unreached}
use Rattle.model_core.specs.Rules.Merge.{merged, first_merge}
use Rattle.model_core.specs.Rules.Needed.{unneeded}
use Rattle.model_core.specs.Text.Canonical.{vertex_name}
use Rattle.model_core.specs.Rules.Reduction.{RuleApplication, Merge, drop_of, merge_of, slice_of}
use Rattle.reducer.specs.declared.later_rules.UnfinishedReduction.{UnfinishedReduction}
use Rattle.reducer.specs.Inner.LaterRules.{MadeAndNoted, DropMayFollow, MadeThenDrop}
use Rattle.model_facts.specs.Progress.{IsProgress}
use Rattle.merge_rules.specs.KeptPairs.{PairsAreRight}

-- the model is valid, and what is known of it is right
pub record IsUnfinishedReduction (u : UnfinishedReduction) : Type 0 where
  pub valid : IsValid (graph_of u.model)
  pub progress : IsProgress (graph_of u.model) u.progress
  pub pairs : PairsAreRight (graph_of u.model) u.pairs

-- ---- the application that a rule gives of a graph, if there is one

abbrev pub drop_rule : EventGraph → Option RuleApplication
drop_rule g = drop_of g (unreached g)

abbrev pub merge_rule : EventGraph → Option RuleApplication
merge_rule g = merge_of g (first_merge g)

abbrev pub slice_rule : EventGraph → Option RuleApplication
slice_rule g = slice_of g (unneeded g)

-- it is made and noted, if there is one
abbrev pub MadeByRule : (EventGraph → Option RuleApplication) → Bool → UnfinishedReduction → UnfinishedReduction → Type 0
MadeByRule rule made old new = MadeAndNoted (rule (graph_of old.model)) made (graph_of old.model) (graph_of new.model) (map application_of old.applications.items) (map application_of new.applications.items)

-- and what is known then is right
pub record ByRule (rule : EventGraph → Option RuleApplication) (some : Bool) (old new : UnfinishedReduction) : Type 0 where
  pub made : MadeByRule rule some old new
  pub progress : IsProgress (graph_of new.model) new.progress
  pub pairs : PairsAreRight (graph_of new.model) new.pairs

-- it is made and noted, if there is one, and maybe the drop after it; and what is known then is right
pub record ByRuleThenDrop (rule : EventGraph → Option RuleApplication) (some : Bool) (old new : UnfinishedReduction) : Type 0 where
  pub made : MadeThenDrop rule some (graph_of old.model) (graph_of new.model) (map application_of old.applications.items) (map application_of new.applications.items)
  pub progress : IsProgress (graph_of new.model) new.progress
  pub pairs : PairsAreRight (graph_of new.model) new.pairs

-- two vertices are merged, and the second one is dropped where it can't be reached then; both are noted, and what is known is right
pub record IsMerged (first second : ℕ) (old new : UnfinishedReduction) : Type 0 where
  pub left : DropMayFollow (merged (graph_of old.model) first second) (graph_of new.model) (map application_of old.applications.items ++ Merge (vertex_name (graph_of old.model) first) (vertex_name (graph_of old.model) second) ∷ []) (map application_of new.applications.items)
  pub progress : IsProgress (graph_of new.model) new.progress
  pub pairs : PairsAreRight (graph_of new.model) new.pairs
