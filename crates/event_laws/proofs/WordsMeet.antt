-- The words of an event lie between the ends of their choices.
use Rattle.std.proofs.Common.{ℕ, ◌==◌, List, [], ◌∷◌, length, sym, subst}
use Rattle.model_core.specs.EventGraph.{EventGraph}
use Rattle.tree_laws.specs.SumValues.{Valuation}
use Rattle.tree_laws.specs.Limits.{Interval}
use Rattle.tree_laws.specs.SumEnds.{Ground}
use Rattle.tree_laws.specs.Meaning.{Within, Meets}
use Rattle.tree_laws.proofs.Gives.{holds_cond}
use Rattle.event_laws.specs.Making.{WordTaken, choice_ends, word_ends, with_words}
use Rattle.event_laws.specs.WordsAre.{WordsAre}
use Rattle.event_laws.proofs.CellsWritten.{same_number}

module _ (v : Valuation) (g : EventGraph) (base : Ground) (meets : Meets (with_words g base []) v) (seed : ℕ) (taken : List ℕ) where
  words-between : (words : List WordTaken) → WordsAre v g seed taken words → (n : ℕ) → Within (word_ends g words n) (v.word n)
  words-between [] are n = meets.word n
  words-between (w ∷ older) (is, are) n =
      holds_cond (λ (e : Interval). Within e (v.word n)) (n == length older) (choice_ends g w.choice) (word_ends g older n)
      (λ e. subst (λ k. Within (choice_ends g w.choice) (v.word k)) (sym (same_number n (length older) e)) is.between)
      (λ e. words-between older are n)

  pub words-meet : (words : List WordTaken) → WordsAre v g seed taken words → Meets (with_words g base words) v
  words-meet words are = record {
    variable = meets.variable;
    received = meets.received;
    word = words-between words are;
    clock = meets.clock;
    cell = meets.cell;
  }
