-- What `reduce` writes for a model, and what that is for.
use Rattle.std.specs.Prelude.{◌≡◌, ℕ, List, ◌++◌}
use Rattle.model_core.specs.EventGraph.{EventGraph}
use Rattle.model_core.specs.Static.Reading.{Reads}
use Rattle.model_core.specs.Text.Canonical.{canonical}
use Rattle.model_core.specs.Rules.Reduction.{RuleApplication, Strategy}
use Rattle.model_core.specs.Rules.Certificate.{certificate}
use Rattle.model_core.specs.Run.Same.{Same}

-- the canonical text of the model to which the strategy leads, and the certificate of its applications
pub record Reduces (original : EventGraph) (out : List ℕ) : Type 0 where
  pub applications : List RuleApplication
  pub reduced : EventGraph
  pub strategy : Strategy original applications reduced
  pub written : out ≡ canonical reduced ++ certificate applications

-- What is written for the text spells a model that means the same: it reads back, and the two models are the same.
pub record KeepsMeaning (text out : List ℕ) : Type 0 where
  pub original : EventGraph
  pub reads : Reads text original
  pub reduces : Reduces original out
  pub reads_back : Reads (canonical reduces.reduced) reduces.reduced
  pub same : Same original reduces.reduced
