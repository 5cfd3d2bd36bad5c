-- Which pairs of vertices are known not to be alike, so that they needn't be looked at again.
use Rattle.std.specs.Prelude.{◌≡◌, ℕ, ◌+◌, ◌<◌, ◌≤◌, ◌==◌, nat_lt, nat_eq, Bool, true, false, not, ◌&&◌, ◌||◌, cond, List, take, slice_index_or, Option, Some, None, is_none}
use Rattle.std.specs.List.{list_any}
use lib.Pointwise.{pointwise}
use Rattle.model_core.specs.EventGraph.{EventGraph}
use Rattle.model_core.specs.Run.Step.{vertex_at}
use Rattle.model_core.specs.Rules.Conditions.{first_failed}
use Rattle.model_core.specs.Rules.Merge.{leads_to}
use Rattle.model_core.specs.Rules.Fuse.{same_changes, same_edges_for, fuse_conditions}
use Rattle.twin_rules.specs.Inner.MarkedVertices.{is_barred}
use Rattle.twin_rules.specs.declared.pair_search.PairSearch.{PairSearch}

-- the two vertices meet all conditions but that on the limits
abbrev pub are_alike : EventGraph → ℕ → ℕ → Bool
are_alike g keep gone = is_none (first_failed (take 5 (fuse_conditions g keep gone)))

-- the two vertices meet these conditions, tested in another order
abbrev pub alike_by : EventGraph → ℕ → ℕ → Bool
alike_by g keep gone =
    let a = vertex_at g keep in
    let b = vertex_at g gone in
    nat_lt keep gone && (not (is_barred g keep) && (not (is_barred g gone) && (same_edges_for keep gone a.edges b.edges && (pointwise nat_eq a.parameters b.parameters && same_changes a.changes b.changes))))

-- the pair (x, y) comes before the pair (keep, gone), by its first vertex and then by its second
abbrev pub is_before_pair : ℕ → ℕ → ℕ → ℕ → Bool
is_before_pair keep gone x y = nat_lt x keep || (x == keep) && nat_lt y gone

-- a vertex is marked as changed; one beyond all marks counts as such
abbrev pub has_changed : List Bool → ℕ → Bool
has_changed changed v = slice_index_or changed v true

abbrev pub was_compared : PairSearch → ℕ → ℕ → Bool
was_compared a x y = is_before_pair a.keep a.gone x y && not (has_changed a.changed x) && not (has_changed a.changed y)

-- a place no further than the next vertex, from this one on, that has changed
abbrev pub next_changed : PairSearch → ℕ → ℕ
next_changed a v = slice_index_or a.next v v

-- the vertices between a place and that one haven't changed
abbrev pub SkipsUnchanged : PairSearch → Type 0
SkipsUnchanged a = (v k : ℕ) → v ≤ k → k < next_changed a v → has_changed a.changed k ≡ false

-- no pair that was asked is alike
abbrev pub NoneAlike : EventGraph → PairSearch → Type 0
NoneAlike g a = (x y : ℕ) → was_compared a x y ≡ true → are_alike g x y ≡ false

-- no pair before this one is alike
abbrev pub NoneAlikeBefore : EventGraph → Option (ℕ × ℕ) → Type 0
NoneAlikeBefore g None = Unit {0}
NoneAlikeBefore g (Some (keep, gone)) = (x y : ℕ) → is_before_pair keep gone x y ≡ true → are_alike g x y ≡ false

-- no pair of this first vertex and one before that second one is alike, or none at all where there is no second one
abbrev pub NoneAlikeWith : EventGraph → ℕ → Option ℕ → Type 0
NoneAlikeWith g keep None = (y : ℕ) → are_alike g keep y ≡ false
NoneAlikeWith g keep (Some gone) = (y : ℕ) → y < gone → are_alike g keep y ≡ false

-- the place before the vertex at `gone` was taken away
abbrev pub place_before : ℕ → ℕ → ℕ
place_before gone v = cond (nat_lt v gone) v (v + 1)

-- some edge of the vertex leads there
abbrev pub some_leads : EventGraph → ℕ → ℕ → Bool
some_leads g vertex target = list_any (leads_to target) (vertex_at g vertex).edges
