-- The trees of an event at its end: renewed under what is known then, with stores and edges in order.
use Rattle.std.specs.Prelude.{ℕ, zero, suc, ◌==◌, Bool, true, false, cond, List, [], ◌∷◌, Option, Some}
use Rattle.tree_laws.specs.Limits.{◌>>=◌}
use Rattle.tree_laws.specs.SumEnds.{Ground, Known}
use Rattle.tree_laws.specs.Trees.{CaseTree, same_tree}
use Rattle.tree_laws.specs.TreesJoined.{renewed}
use Rattle.tree_laws.specs.TreeConditions.{is_zero_tree, equal_tree, read_cell}
use Rattle.tree_laws.specs.Valued.{Check, Stored, SoFar}
use Rattle.event_laws.specs.Making.{WordTaken}
use Rattle.event_laws.specs.EdgesMade.{EdgeTrees}
use Rattle.event_laws.specs.EdgesTidied.{edges_tidied}
use Rattle.event_laws.specs.EventMade.{EventMade}

-- the sum of an event: its checks and words, with the last first, the values after it, and its edges
pub record EventSum : Type 0 where
  pub values : SoFar
  pub checks : List Check
  pub words : List WordTaken
  pub edges : List EdgeTrees

module _ (base : Ground) (k : Known) where
  -- ---- stores, with the last first

  unfoldable pub stores_renewed : List Stored → Option (List Stored)
  stores_renewed [] = Some []
  stores_renewed (s ∷ older) = do
    a ← renewed base k s.index
    t ← renewed base k s.value
    rest ← stores_renewed older
    Some (record { index = a; value = t } ∷ rest)

  -- the store's index is never that of one of these
  unfoldable pub apart_from : Stored → List Stored → Option Bool
  apart_from s [] = Some true
  apart_from s (t ∷ ts) = do
    c ← equal_tree base k s.index t.index
    cond (is_zero_tree c) (apart_from s ts) (Some false)

  unfoldable pub stores_apart : List Stored → Option Bool
  stores_apart [] = Some true
  stores_apart (s ∷ older) = do
    apart ← apart_from s older
    cond apart (stores_apart older) (Some false)

  -- without stores of what the cell has already
  unfoldable pub without_own : ℕ → List Stored → Option (List Stored)
  without_own i [] = Some []
  without_own i (s ∷ older) = do
    t ← read_cell base i k s.index
    rest ← without_own i older
    Some (cond (same_tree s.value t) rest (s ∷ rest))

  module _ (less : CaseTree → CaseTree → Bool) where
    -- put into its place, the greatest index first
    unfoldable pub store_put : Stored → List Stored → List Stored
    store_put s [] = s ∷ []
    store_put s (t ∷ ts) = cond (less s.index t.index) (t ∷ store_put s ts) (s ∷ t ∷ ts)

    unfoldable pub stores_in_order : List Stored → List Stored
    stores_in_order [] = []
    stores_in_order (s ∷ ss) = store_put s (stores_in_order ss)

    -- only stores whose indexes are never equal may be left out and put in order
    abbrev pub stores_closed : ℕ → List Stored → Option (List Stored)
    stores_closed i ss = do
      rs ← stores_renewed ss
      apart ← stores_apart rs
      cond apart (do
        ls ← without_own i rs
        Some (stores_in_order ls)) (Some rs)

    -- ---- values, of the first n variables

    unfoldable pub values_closed : ℕ → SoFar → Option SoFar
    values_closed zero so_far = Some so_far
    values_closed (suc n) so_far = do
      t ← renewed base k (so_far.scalar n)
      ss ← stores_closed n (so_far.stores n)
      others ← values_closed n so_far
      Some (record { scalar = λ i. cond (n == i) t (others.scalar i); stores = λ i. cond (n == i) ss (others.stores i) })

  -- ---- words and the whole

  unfoldable pub words_renewed : List WordTaken → Option (List WordTaken)
  words_renewed [] = Some []
  words_renewed (w ∷ older) = do
    c ← renewed base k w.guard
    rest ← words_renewed older
    Some (record w { guard = c } ∷ rest)

-- the sum of an event of a model with n variables, by the orders of indexes and of edges
abbrev pub event_closed : Ground → (CaseTree → CaseTree → Bool) → (EdgeTrees → EdgeTrees → Bool) → ℕ → EventMade → Option EventSum
event_closed base index_less edge_less n e = do
  values ← values_closed base e.noted.known index_less n e.values
  words ← words_renewed base e.noted.known e.words
  edges ← edges_tidied base e.noted.known edge_less e.edges
  Some (record { values = values; checks = e.noted.checks; words = words; edges = edges })
