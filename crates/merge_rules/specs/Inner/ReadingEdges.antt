-- Edges that read variables: one by one, and counted.
use Rattle.std.specs.Prelude.{ℕ, Bool, nat_lt, not, cond, ◌&&◌, ◌||◌, List, [], ◌∷◌, slice_index}
use Rattle.std.specs.List.{list_any}
use Rattle.model_core.specs.EventGraph.{EventGraph, EventEdge, has_drawn_delay}
use Rattle.model_core.specs.Rules.BoundsOfParts.{quiet_edge}
use Rattle.model_core.specs.Rules.MarkedPlaces.{is_among}
use Rattle.model_core.specs.Rules.Uses.{edge_reads}
use Rattle.use_analysis.specs.UseNumbers.{raised_at, lowered_at}

-- an edge reads this variable, or one of these
abbrev pub reads_it : ℕ → EventEdge → Bool
reads_it v e = is_among (edge_reads e) v

abbrev pub reads_one_of : List ℕ → EventEdge → Bool
reads_one_of vars e = list_any (is_among (edge_reads e)) vars

-- numbers of readers after these edges are counted one by one, and after they are taken away
abbrev pub counted : List EventEdge → List ℕ → List ℕ
counted [] numbers = numbers
counted (e ∷ es) numbers = counted es (raised_at (edge_reads e) numbers)

abbrev pub uncounted : List EventEdge → List ℕ → List ℕ
uncounted [] numbers = numbers
uncounted (e ∷ es) numbers = uncounted es (lowered_at (edge_reads e) numbers)

-- one of the counted edges reads the variable: the numbers say that of so many variables, and a walk over the edges of others
abbrev pub is_read_by_counts : ℕ → List ℕ → List EventEdge → List EventEdge → ℕ → Bool
is_read_by_counts variables numbers before after v =
    cond (nat_lt v variables) (nat_lt 0 (slice_index numbers v)) (list_any (reads_it v) before || list_any (reads_it v) after)

-- an edge never faults, and draws no delay
abbrev pub is_calm : EventGraph → EventEdge → Bool
is_calm g e = quiet_edge g e && not (has_drawn_delay e)
