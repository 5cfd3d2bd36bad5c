-- The trees of an event's changes.
use Rattle.std.specs.Prelude.{ℕ, ◌==◌, ℤ, pos, ◌-ℤ◌, cond, List, [], ◌∷◌, length, Option, Some, None}
use Rattle.sig_base.specs.declared.fault.FaultKind.TheVariants as faults
use Rattle.model_core.specs.EventGraph.{EventGraph, Variable, Expression, Location, StateChange, Set, Draw}
use Rattle.model_core.specs.Run.State.{variable_at}
use Rattle.model_core.specs.Rules.BoundsOfParts.{is_truth_kind}
use Rattle.tree_laws.specs.LinearSums.{WordAtom}
use Rattle.tree_laws.specs.Limits.{◌>>=◌}
use Rattle.tree_laws.specs.SumEnds.{Ground, Known}
use Rattle.tree_laws.specs.Trees.{CaseTree, same_tree}
use Rattle.tree_laws.specs.TreesJoined.{choose, renewed}
use Rattle.tree_laws.specs.TreeConditions.{number_tree, at_most_tree, equal_tree, between_tree, read_tree}
use Rattle.tree_laws.specs.Valued.{Noted, Valued, Stored, SoFar, note, valued}
use Rattle.event_laws.specs.Making.{WordTaken, Making, TreesMade, with_words}

-- the guard of what always counts
abbrev pub always : CaseTree
always = number_tree (pos 1)

-- where a value is stored: a variable, and the tree of the index where it is an array
pub record PlaceTree : Type 0 where
  pub variable : ℕ
  pub index : Option CaseTree

pub record PlaceMade : Type 0 where
  pub place : PlaceTree
  pub noted : Noted

pub record PlacesMade : Type 0 where
  pub places : List PlaceTree
  pub noted : Noted

-- ---- one value

module _ (base : Ground) where
  -- no less than lo, and of that no more than hi
  abbrev pub clipped : ℤ → ℤ → CaseTree → Noted → Option Valued
  clipped lo hi t n = do
    low ← at_most_tree base n.known t lo
    u ← choose base n.known low (number_tree lo) t
    fits ← at_most_tree base n.known u hi
    w ← choose base n.known fits u (number_tree hi)
    Some (record { tree = w; noted = n })

  abbrev pub range_checked : ℤ → ℤ → CaseTree → Noted → Option Valued
  range_checked lo hi t n = do
    c ← between_tree base n.known t lo hi
    m ← note base faults.RangeOutside always c n
    r ← renewed base m.known t
    Some (record { tree = r; noted = m })

  unfoldable pub kept_tree : Variable → CaseTree → Noted → Option Valued
  kept_tree x t n = cond (is_truth_kind x.kind) (Some (record { tree = t; noted = n })) (cond x.clip (clipped x.lo x.hi t n) (range_checked x.lo x.hi t n))

  -- ---- stores

  -- the earlier stores at indexes that aren't always this one
  unfoldable pub stores_left : Known → CaseTree → List Stored → Option (List Stored)
  stores_left k a [] = Some []
  stores_left k a (s ∷ older) = do
    c ← equal_tree base k a s.index
    left ← stores_left k a older
    Some (cond (same_tree c always) left (s ∷ left))

  abbrev pub stored_at : Known → ℕ → Option CaseTree → CaseTree → SoFar → Option SoFar
  stored_at k v None t so_far = Some (record so_far { scalar = λ i. cond (v == i) t (so_far.scalar i) })
  stored_at k v (Some a) t so_far = do
    left ← stores_left k a (so_far.stores v)
    Some (record so_far { stores = λ i. cond (v == i) (record { index = a; value = t } ∷ left) (so_far.stores i) })

  unfoldable pub stored : Known → PlaceTree → CaseTree → SoFar → Option SoFar
  stored k p t so_far = stored_at k p.variable p.index t so_far

  -- from left to right
  unfoldable pub all_stored : Known → List PlaceTree → List CaseTree → SoFar → Option SoFar
  all_stored k [] ts so_far = Some so_far
  all_stored k (p ∷ ps) [] so_far = Some so_far
  all_stored k (p ∷ ps) (t ∷ ts) so_far = do
    later ← stored k p t so_far
    all_stored k ps ts later

-- ---- several, under one model

module _ (g : EventGraph) where
  module _ (base : Ground) where
    -- the trees of expressions, from left to right
    unfoldable pub all_valued : SoFar → CaseTree → List Expression → Noted → Option TreesMade
    all_valued so_far guard [] n = Some (record { trees = []; noted = n })
    all_valued so_far guard (e ∷ es) n = do
      w ← valued base g so_far e guard n
      ws ← all_valued so_far guard es w.noted
      Some (record { trees = w.tree ∷ ws.trees; noted = ws.noted })

    -- a variable at an index, which is checked
    abbrev pub placed_at : SoFar → ℕ → Option Expression → Noted → Option PlaceMade
    placed_at so_far v None n = Some (record { place = record { variable = v; index = None }; noted = n })
    placed_at so_far v (Some e) n = do
      a ← valued base g so_far e always n
      c ← between_tree base a.noted.known a.tree (pos 0) (pos (variable_at g v).size -ℤ pos 1)
      m ← note base faults.IndexOutside always c a.noted
      Some (record { place = record { variable = v; index = Some a.tree }; noted = m })

    unfoldable pub placed : SoFar → Location → Noted → Option PlaceMade
    placed so_far l n = placed_at so_far l.variable l.index n

    unfoldable pub all_placed : SoFar → List Location → Noted → Option PlacesMade
    all_placed so_far [] n = Some (record { places = []; noted = n })
    all_placed so_far (l ∷ ls) n = do
      p ← placed so_far l n
      ps ← all_placed so_far ls p.noted
      Some (record { places = p.place ∷ ps.places; noted = ps.noted })

    -- of each place and the tree beside it
    unfoldable pub all_kept : List PlaceTree → List CaseTree → Noted → Option TreesMade
    all_kept [] ts n = Some (record { trees = []; noted = n })
    all_kept (p ∷ ps) [] n = Some (record { trees = []; noted = n })
    all_kept (p ∷ ps) (t ∷ ts) n = do
      w ← kept_tree base (variable_at g p.variable) t n
      ws ← all_kept ps ts w.noted
      Some (record { trees = w.tree ∷ ws.trees; noted = ws.noted })

    -- all values, all indexes and all checks are made before the first value is stored
    abbrev pub set_made : List Location → List Expression → Making → Option Making
    set_made targets rights m = do
      values ← all_valued m.values always rights m.noted
      places ← all_placed m.values targets values.noted
      kept ← all_kept places.places values.trees places.noted
      later ← all_stored base kept.noted.known places.places kept.trees m.values
      Some (record { values = later; noted = kept.noted; words = m.words })

  -- ---- changes

  module _ (base : Ground) where
    -- the index is made before the word is taken
    abbrev pub draw_made : Location → WordTaken → Making → Option Making
    draw_made target w m = do
      p ← placed (with_words g base m.words) m.values target m.noted
      t ← read_tree (with_words g base (w ∷ m.words)) p.noted.known (WordAtom (length m.words))
      kept ← kept_tree (with_words g base (w ∷ m.words)) (variable_at g p.place.variable) t p.noted
      later ← stored (with_words g base (w ∷ m.words)) kept.noted.known p.place kept.tree m.values
      Some (record { values = later; noted = kept.noted; words = w ∷ m.words })

    unfoldable pub change_made : StateChange → Making → Option Making
    change_made (Set targets rights) m = set_made (with_words g base m.words) targets rights m
    change_made (Draw target stream choice) m = draw_made target (record { stream = stream; guard = always; choice = choice }) m

    unfoldable pub changes_made : List StateChange → Making → Option Making
    changes_made [] m = Some m
    changes_made (c ∷ cs) m = do
      later ← change_made c m
      changes_made cs later
