-- What the code knows as it merges two vertices: what is right of the model before the merge, and what of its result.
use Rattle.std.specs.Prelude.{◌≡◌, ℕ, Bool, true, false, None, List, [], ◌∷◌, length}
use Rattle.model_core.specs.EventGraph.{EventGraph}
use Rattle.model_core.specs.Rules.Conditions.{first_failed}
use Rattle.model_core.specs.Rules.Reached.{unreached}
use Rattle.model_core.specs.Rules.Merge.{merge_conditions, merged}
use Rattle.model_facts.specs.FactsOfModel.{FactsAreRight}
use Rattle.model_facts.specs.NothingCounted.{NothingCounted}
use Rattle.model_facts.specs.declared.progress.Progress.{Progress}
use Rattle.merge_rules.specs.KeptPairs.{has_incoming, PairsAreRight}
use Rattle.merge_rules.specs.declared.kept_pairs.KeptPair.{KeptPair}

-- one vertex alone can't be reached, and no edge leads to it
pub record OnlyUnreached (g : EventGraph) (gone : ℕ) : Type 0 where
  pub alone : unreached g ≡ gone ∷ []
  pub unled : has_incoming g gone ≡ false

-- this vertex is the only one that can't be reached, or all can be
abbrev pub ReachedIsRight : EventGraph → ℕ → Bool → Type 0
ReachedIsRight g gone true = OnlyUnreached g gone
ReachedIsRight g gone false = unreached g ≡ []

-- two vertices may be merged, and what is kept of the vertices is that of the result already
pub record IsMerging (g : EventGraph) (first second : ℕ) (p : Progress) (kept : List KeptPair) : Type 0 where
  pub holds : first_failed (merge_conditions g first second) ≡ None
  pub facts : FactsAreRight g p.facts
  pub counts : NothingCounted (length g.variables) p.counts
  pub pairs : PairsAreRight (merged g first second) kept
