-- What is made so far of an event: the trees of its variables, its checks, and the words that it takes.
use Rattle.std.specs.Prelude.{ℕ, ◌==◌, cond, List, [], ◌∷◌, length}
use Rattle.model_core.specs.EventGraph.{EventGraph, Choice}
use Rattle.model_core.specs.Rules.BoundsTable.{lowest, highest}
use Rattle.model_core.specs.Rules.BoundsOfParts.{choice_bounds}
use Rattle.tree_laws.specs.Limits.{Interval}
use Rattle.tree_laws.specs.SumEnds.{Ground}
use Rattle.tree_laws.specs.Trees.{CaseTree}
use Rattle.tree_laws.specs.Valued.{Noted, SoFar}

-- a word that is taken from a stream where the guard is 1, and what its value is picked from
pub record WordTaken : Type 0 where
  pub stream : ℕ
  pub guard : CaseTree
  pub choice : Choice

-- the words are listed with the last first, and numbered from 0
pub record Making : Type 0 where
  pub values : SoFar
  pub noted : Noted
  pub words : List WordTaken

-- trees that were made one after the other, and what was noted by then
pub record TreesMade : Type 0 where
  pub trees : List CaseTree
  pub noted : Noted

-- ---- the ends of picks

abbrev pub choice_ends : EventGraph → Choice → Interval
choice_ends g c = record { lo = (choice_bounds g c).lo; hi = (choice_bounds g c).hi }

-- of the word with this number; nothing is known of one that isn't taken yet
abbrev pub word_ends : EventGraph → List WordTaken → ℕ → Interval
word_ends g [] n = record { lo = lowest; hi = highest }
word_ends g (w ∷ older) n = cond (n == length older) (choice_ends g w.choice) (word_ends g older n)

abbrev pub with_words : EventGraph → Ground → List WordTaken → Ground
with_words g base words = record base { word = word_ends g words }
