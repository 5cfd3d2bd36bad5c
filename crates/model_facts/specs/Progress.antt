-- When what is known of a model between two applications of rules is right.
use Rattle.std.specs.Prelude.{◌≡◌, true, [], length}
use Rattle.model_core.specs.EventGraph.{EventGraph}
use Rattle.model_core.specs.Rules.Reached.{unreached}
use Rattle.model_facts.specs.FactsOfModel.{FactsAreRight}
use Rattle.model_facts.specs.NothingCounted.{NothingCounted}
use Rattle.model_facts.specs.declared.progress.Progress.{Progress}

pub record IsProgress (g : EventGraph) (p : Progress) : Type 0 where
  pub facts : FactsAreRight g p.facts
  pub counts : NothingCounted (length g.variables) p.counts
  pub reached : p.all_reached ≡ true → unreached g ≡ []
