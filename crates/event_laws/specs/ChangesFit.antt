-- What the trees of changes ask of a model: the static rules give it for each state in range.
use Rattle.std.specs.Prelude.{◌≡◌, ℕ, ◌<◌, ℤ, true, IsTrue, List, [], ◌∷◌, length, Option, Some, None, Ok}
use Rattle.std.specs.List.{AllByRecursion}
use Rattle.sig_base.specs.Stream.{word}
use Rattle.model_core.specs.EventGraph.{EventGraph, Expression, Location, StateChange, Set, Draw}
use Rattle.model_core.specs.Run.State.{State, variable_at, within, in_range}
use Rattle.model_core.specs.Run.Value.{value_of}
use Rattle.model_core.specs.Run.Changes.{drawn_value}
use Rattle.model_core.specs.Rules.BoundsOfParts.{is_truth_kind}
use Rattle.tree_laws.specs.ValuesAgree.{TruthsWhereAsked}

module _ (g : EventGraph) (s : State) (clk : ℕ) where
  abbrev pub IndexFits : ℕ → Option Expression → Type 0
  IndexFits v None = (variable_at g v).size ≡ 0
  IndexFits v (Some e) = TruthsWhereAsked g s clk e

  -- the variable is declared, and no array without an index
  abbrev pub LocationFits : Location → Type 0
  LocationFits l = (l.variable < length g.variables) × IndexFits l.variable l.index

  -- a value that is stored as a truth value is one
  abbrev pub TruthFits : ℕ → ℤ → Type 0
  TruthFits v x = is_truth_kind (variable_at g v).kind ≡ true → within (variable_at g v).lo (variable_at g v).hi x ≡ true

  abbrev pub PairsFit : List Location → List Expression → Type 0
  PairsFit [] rights = Unit {0}
  PairsFit (l ∷ ls) [] = Unit {0}
  PairsFit (l ∷ ls) (e ∷ es) = ((x : ℤ) → value_of g s clk e ≡ Ok x → TruthFits l.variable x) × PairsFit ls es

  abbrev pub ChangeFits : StateChange → Type 0
  ChangeFits (Set targets rights) = AllByRecursion (TruthsWhereAsked g s clk) rights × (AllByRecursion LocationFits targets × PairsFit targets rights)
  ChangeFits (Draw target stream choice) = LocationFits target × ((seed taken : ℕ) → TruthFits target.variable (drawn_value g choice (word seed stream taken)))

-- in each state in range
abbrev pub AlwaysFits : EventGraph → ℕ → StateChange → Type 0
AlwaysFits g clk c = (s : State) → IsTrue (in_range g s) → ChangeFits g s clk c
