-- The edges of an event, renewed at its end, put in order and joined.
use Rattle.std.specs.Prelude.{ℕ, zero, suc, ◌==◌, ℤ, pos, int_lt, Bool, true, false, not, ◌&&◌, ◌||◌, cond, List, [], ◌∷◌, ◌++◌, length, Option, Some, None}
use Rattle.std.specs.Int.{int_max}
use Rattle.tree_laws.specs.Limits.{◌>>=◌, Interval, each_some}
use Rattle.tree_laws.specs.SumEnds.{Ground, Known}
use Rattle.tree_laws.specs.Trees.{CaseTree}
use Rattle.tree_laws.specs.TreesJoined.{choose, renewed}
use Rattle.tree_laws.specs.TreeConditions.{number_tree, is_zero_tree, learned, tree_ends}
use Rattle.pair_laws.specs.EdgesNow.{FormNow, Schedules, TakesNext, TakesEqual, TakesAll}
use Rattle.event_laws.specs.EdgesMade.{EdgeTrees}

abbrev pub same_form : FormNow → FormNow → Bool
same_form (Schedules p) (Schedules q) = p == q
same_form TakesNext TakesNext = true
same_form TakesEqual TakesEqual = true
same_form TakesAll TakesAll = true
same_form f h = false

-- delays between these ends are never one number of ticks
abbrev pub ends_apart : Interval → Interval → Bool
ends_apart e f = int_lt (int_max (pos 0) e.hi) f.lo || int_lt (int_max (pos 0) f.hi) e.lo

-- an edge, and what stands before it and behind it
pub record EdgePicked : Type 0 where
  pub front : List EdgeTrees
  pub edge : EdgeTrees
  pub back : List EdgeTrees

-- an edge, and what is left behind it
pub record EdgeJoined : Type 0 where
  pub edge : EdgeTrees
  pub others : List EdgeTrees

module _ (base : Ground) (k : Known) where
  -- delay and values count under what the condition teaches
  abbrev pub renewed_under : CaseTree → CaseTree → List CaseTree → EdgeTrees → Option EdgeTrees
  renewed_under c delay values e = do
    l ← learned base k c
    d ← renewed base l delay
    vs ← each_some (renewed base l) values
    Some (record e { condition = c; delay = d; values = vs })

  -- an edge whose condition is 0 is left out
  abbrev pub edge_renewed : EdgeTrees → Option (List EdgeTrees)
  edge_renewed e = do
    c ← renewed base k e.condition
    cond (is_zero_tree c) (Some []) (do
      f ← renewed_under c e.delay e.values e
      Some (f ∷ []))

  unfoldable pub edges_renewed : List EdgeTrees → Option (List EdgeTrees)
  edges_renewed [] = Some []
  edges_renewed (e ∷ es) = do
    one ← edge_renewed e
    more ← edges_renewed es
    Some (one ++ more)

  -- ---- edges that may change places

  -- not both conditions are true
  abbrev pub never_both : EdgeTrees → EdgeTrees → Option Bool
  never_both a b = do
    c ← choose base k a.condition b.condition (number_tree (pos 0))
    Some (is_zero_tree c)

  abbrev pub delay_ends : EdgeTrees → Option Interval
  delay_ends e = do
    l ← learned base k e.condition
    tree_ends base l e.delay

  abbrev pub delays_apart : EdgeTrees → EdgeTrees → Option Bool
  delays_apart a b = do
    e ← delay_ends a
    f ← delay_ends b
    Some (ends_apart e f)

  abbrev pub may_change_by : EdgeTrees → EdgeTrees → FormNow → FormNow → Option Bool
  may_change_by a b (Schedules p) (Schedules q) = cond (p == q) (delays_apart a b) (Some true)
  may_change_by a b (Schedules p) TakesNext = Some (not (a.target == b.target))
  may_change_by a b (Schedules p) TakesEqual = Some (not (a.target == b.target))
  may_change_by a b (Schedules p) TakesAll = Some (not (a.target == b.target))
  may_change_by a b TakesNext (Schedules q) = Some (not (a.target == b.target))
  may_change_by a b TakesEqual (Schedules q) = Some (not (a.target == b.target))
  may_change_by a b TakesAll (Schedules q) = Some (not (a.target == b.target))
  may_change_by a b TakesNext TakesEqual = Some (not (a.target == b.target))
  may_change_by a b TakesEqual TakesNext = Some (not (a.target == b.target))
  may_change_by a b f h = Some true

  -- by what they do, or not both have an effect
  abbrev pub trees_may_change : EdgeTrees → EdgeTrees → Option Bool
  trees_may_change a b = do
    may ← may_change_by a b a.form b.form
    cond may (Some true) (never_both a b)

  -- all of these, with the edge behind them
  unfoldable pub all_may_change : List EdgeTrees → EdgeTrees → Option Bool
  all_may_change [] b = Some true
  all_may_change (a ∷ as_) b = do
    may ← trees_may_change a b
    cond may (all_may_change as_ b) (Some false)

  -- ---- in order

  module _ (less : EdgeTrees → EdgeTrees → Bool) where
    -- of equal ones the first
    abbrev pub least_of_two : EdgePicked → Option EdgePicked → Option EdgePicked
    least_of_two p None = Some p
    least_of_two p (Some q) = cond (less q.edge p.edge) (Some q) (Some p)

    -- the least of those that may change places with all before them; front stands before the others
    unfoldable pub edge_picked : List EdgeTrees → List EdgeTrees → Option (Option EdgePicked)
    edge_picked front [] = Some None
    edge_picked front (e ∷ back) = do
      may ← all_may_change front e
      later ← edge_picked (front ++ e ∷ []) back
      Some (cond may (least_of_two (record { front = front; edge = e; back = back }) later) later)

    -- again and again the least that may come next, n times
    unfoldable pub ordered_within : ℕ → List EdgeTrees → Option (List EdgeTrees)
    ordered_within zero es = Some es
    ordered_within (suc n) es = do
      o ← edge_picked [] es
      elim o [
        | None ↦ Some es
        | Some p ↦ ordered_within n (p.front ++ p.back) >>= λ rest. Some (p.edge ∷ rest)
      ]

    abbrev pub edges_ordered : List EdgeTrees → Option (List EdgeTrees)
    edges_ordered es = ordered_within (length es) es

  -- ---- joined

  unfoldable pub each_chosen : CaseTree → List CaseTree → List CaseTree → Option (List CaseTree)
  each_chosen c [] bs = Some []
  each_chosen c (a ∷ as_) [] = Some []
  each_chosen c (a ∷ as_) (b ∷ bs) = do
    t ← choose base k c a b
    ts ← each_chosen c as_ bs
    Some (t ∷ ts)

  -- one edge for two
  abbrev pub trees_of_two : EdgeTrees → EdgeTrees → Option EdgeTrees
  trees_of_two a b = do
    c ← choose base k a.condition (number_tree (pos 1)) b.condition
    d ← choose base k a.condition a.delay b.delay
    vs ← each_chosen a.condition a.values b.values
    renewed_under c d vs a

  abbrev pub may_join : EdgeTrees → List EdgeTrees → EdgeTrees → Option Bool
  may_join a between b = cond (same_form a.form b.form && ((a.target == b.target) && (length a.values == length b.values))) (do
    apart ← never_both a b
    cond apart (all_may_change between b) (Some false)) (Some false)

  -- an edge with each later one that joins it, in turn
  unfoldable pub joined_with : EdgeTrees → List EdgeTrees → List EdgeTrees → Option EdgeJoined
  joined_with a between [] = Some (record { edge = a; others = between })
  joined_with a between (b ∷ back) = do
    may ← may_join a between b
    cond may (do
      both ← trees_of_two a b
      joined_with both between back) (joined_with a (between ++ b ∷ []) back)

  -- each edge in turn, n of them
  unfoldable pub joined_within : ℕ → List EdgeTrees → Option (List EdgeTrees)
  joined_within zero es = Some es
  joined_within (suc n) [] = Some []
  joined_within (suc n) (a ∷ es) = do
    j ← joined_with a [] es
    more ← joined_within n j.others
    Some (j.edge ∷ more)

  abbrev pub edges_joined : List EdgeTrees → Option (List EdgeTrees)
  edges_joined es = joined_within (length es) es

  -- ---- at the end of an event

  abbrev pub edges_tidied : (EdgeTrees → EdgeTrees → Bool) → List EdgeTrees → Option (List EdgeTrees)
  edges_tidied less es = do
    rs ← edges_renewed es
    os ← edges_ordered less rs
    js ← edges_joined os
    edges_ordered less js
