-- What the bytes that `print` and `reduce` wrote of one text show. No grammar of texts, no static rule and no rule of reduction is
-- named here. That the first model is the one that was read isn't said here: it is the promise `printed`.
use Rattle.std.specs.Prelude.{◌≡◌, ℕ, List, ◌++◌, codes}
use Rattle.model_core.specs.EventGraph.{EventGraph}
use Rattle.model_core.specs.Run.Same.{Same}
use Rattle.model_core.specs.Text.Canonical.{canonical}
use Rattle.model_core.specs.Text.Spellable.{IsSpellable, ReadsBack}

-- A model that has a text: a text can write its parts, each name is declared once, and truth values begin as they are written.
pub record HasText (g : EventGraph) : Type 0 where
  pub spellable : IsSpellable g
  pub reads_back : ReadsBack g

-- a certificate begins with this line
abbrev pub certificate_of : List ℕ → List ℕ
certificate_of lines = codes "certificate\n" ++ lines

-- `print` wrote the canonical text of a model, and `reduce` that of a second model and then a certificate. The two models are
-- the same. Nothing here says that the second one is smaller, or what the certificate has after its first line.
pub record ShowTheSame (printed reduced : List ℕ) : Type 0 where
  pub original : EventGraph
  pub smaller : EventGraph
  pub lines : List ℕ
  pub original_text : HasText original
  pub smaller_text : HasText smaller
  pub print_wrote : printed ≡ canonical original
  pub reduce_wrote : reduced ≡ canonical smaller ++ certificate_of lines
  pub same : Same original smaller
