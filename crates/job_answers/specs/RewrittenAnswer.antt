-- The text of a rewritten model, as `fuse` and `narrow` write it, and what it is for.
use Rattle.std.specs.Prelude.{◌≡◌, ℕ, List}
use Rattle.model_core.specs.EventGraph.{EventGraph}
use Rattle.model_core.specs.Static.Reading.{Reads}
use Rattle.model_core.specs.Text.Canonical.{canonical}
use Rattle.model_core.specs.Run.Same.{Same}

-- the canonical text of the model that this one becomes
pub record Rewrites (Becomes : EventGraph → EventGraph → Type 0) (original : EventGraph) (out : List ℕ) : Type 0 where
  pub rewritten : EventGraph
  pub becomes : Becomes original rewritten
  pub written : out ≡ canonical rewritten

-- What is written for the text is that of a model that means the same: it reads back, and the two models are the same.
pub record RewritesTheSame (Becomes : EventGraph → EventGraph → Type 0) (text out : List ℕ) : Type 0 where
  pub original : EventGraph
  pub reads : Reads text original
  pub rewrites : Rewrites Becomes original out
  pub reads_back : Reads out rewrites.rewritten
  pub same : Same original rewrites.rewritten
