-- When the words of an event have the values that a run picks.
use Rattle.std.specs.Prelude.{◌≡◌, ℕ, pos, cond, List, [], ◌∷◌, length}
use Rattle.sig_base.specs.Stream.{word}
use Rattle.model_core.specs.EventGraph.{EventGraph}
use Rattle.model_core.specs.Run.Value.{is_one}
use Rattle.model_core.specs.Run.Changes.{taken_from, one_more, drawn_value}
use Rattle.tree_laws.specs.SumValues.{Valuation}
use Rattle.tree_laws.specs.Meaning.{Within}
use Rattle.tree_laws.specs.Trees.{tree_value}
use Rattle.event_laws.specs.Making.{WordTaken, choice_ends}

module _ (v : Valuation) where
  -- how many words were taken from each stream, once these were taken too
  abbrev pub taken_after : List ℕ → List WordTaken → List ℕ
  taken_after taken [] = taken
  taken_after taken (w ∷ older) = cond (is_one (tree_value v w.guard)) (one_more (taken_after taken older) w.stream) (taken_after taken older)

  -- the value lies between the ends of its choice; where the word is taken, it is the pick from the next word of its stream
  pub record WordIs (g : EventGraph) (seed : ℕ) (taken : List ℕ) (older : List WordTaken) (w : WordTaken) : Type 0 where
    pub between : Within (choice_ends g w.choice) (v.word (length older))
    pub picked : tree_value v w.guard ≡ pos 1 → v.word (length older) ≡ drawn_value g w.choice (word seed w.stream (taken_from (taken_after taken older) w.stream))

  abbrev pub WordsAre : EventGraph → ℕ → List ℕ → List WordTaken → Type 0
  WordsAre g seed taken [] = Unit {0}
  WordsAre g seed taken (w ∷ older) = WordIs g seed taken older w × WordsAre g seed taken older
