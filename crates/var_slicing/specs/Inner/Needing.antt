-- What is collected from a model, part by part: first what is needed at once but for what may fault, and then pairs, but for those
-- that lead to what is marked already.
use Rattle.std.specs.Prelude.{ℕ, Bool, not, cond, List, [], ◌∷◌, ◌++◌, length, filter, zip}
use Rattle.std.specs.List.{flat_map}
use Rattle.model_core.specs.EventGraph.{EventGraph, Expression, Location, EventVertex, EventEdge, StateChange, Set, Draw, watched_variables}
use Rattle.model_core.specs.Run.Step.{vertex_at}
use Rattle.model_core.specs.Rules.MarkedPlaces.{is_marked, is_among}
use Rattle.model_core.specs.Rules.Entailed.{entailed_marks}
use Rattle.model_core.specs.Rules.Uses.{variables_in, location_reads, edge_streams}
use Rattle.model_core.specs.Rules.Needed.{carried_pairs, compared_parameters, deciding_reads, each_beside, streams_drawn, drawn_from}
use Rattle.var_slicing.specs.declared.needs.Needs.{Needs}

pub record Collected : Type 0 where
  pub first : List ℕ
  pub pairs : List (ℕ × ℕ)
  pub draws : List (ℕ × ℕ)
  pub delays : List ℕ

abbrev pub collected_of : Needs → Collected
collected_of n = record { first = n.first.items; pairs = n.pairs.items; draws = n.draws.items; delays = n.delays.items }

abbrev pub nothing : Collected
nothing = record { first = []; pairs = []; draws = []; delays = [] }

-- ---- lists that grow part by part

-- what f gives for each of these, added one by one
abbrev pub added_each : {A C : Type 0} → (A → List C) → List A → List C → List C
added_each f [] out = out
added_each f (a ∷ as_) out = added_each f as_ (out ++ f a)

-- ---- what an edge needs, whatever else is needed, but for what may fault

abbrev pub needed_to_decide : EventGraph → EventEdge → List ℕ
needed_to_decide g e = compared_parameters g e ++ deciding_reads e

-- streams, each once, and one more
abbrev pub with_stream : List ℕ → ℕ → List ℕ
with_stream streams s = cond (is_among streams s) streams (streams ++ s ∷ [])

abbrev pub with_streams : List ℕ → List ℕ → List ℕ
with_streams streams [] = streams
with_streams streams (s ∷ more) = with_streams (with_stream streams s) more

abbrev pub with_edge : EventGraph → EventEdge → Collected → Collected
with_edge g e n = record n { first = n.first ++ needed_to_decide g e; delays = with_streams n.delays (edge_streams e) }

abbrev pub with_edges : EventGraph → List EventEdge → Collected → Collected
with_edges g [] n = n
with_edges g (e ∷ es) n = with_edges g es (with_edge g e n)

abbrev pub with_all_edges : EventGraph → List EventVertex → Collected → Collected
with_all_edges g [] n = n
with_all_edges g (v ∷ vs) n = with_all_edges g vs (with_edges g v.edges n)

abbrev pub collected_at_once : EventGraph → Collected
collected_at_once g = with_all_edges g g.vertices (record nothing { first = watched_variables g.watch ++ (vertex_at g 0).parameters })

-- ---- pairs, but for those whose second place is marked

abbrev pub with_read : List Bool → ℕ → List (ℕ × ℕ) → ℕ → List (ℕ × ℕ)
with_read marks v pairs w = cond (is_marked marks w) pairs (pairs ++ (v, w) ∷ [])

abbrev pub with_reads : List Bool → ℕ → List (ℕ × ℕ) → List ℕ → List (ℕ × ℕ)
with_reads marks v pairs [] = pairs
with_reads marks v pairs (w ∷ ws) = with_reads marks v (with_read marks v pairs w) ws

abbrev pub open_pairs : List Bool → List (ℕ × ℕ) → List (ℕ × ℕ)
open_pairs marks pairs = filter (λ (v, w). not (is_marked marks w)) pairs

-- those of a target, and of a parameter
abbrev pub target_pairs : List Bool → Location → Expression → List (ℕ × ℕ)
target_pairs marks l e = open_pairs marks (each_beside l.variable (location_reads l ++ variables_in e))

abbrev pub value_pairs : List Bool → ℕ → Expression → List (ℕ × ℕ)
value_pairs marks v e = open_pairs marks (each_beside v (variables_in e))

abbrev pub with_targets : List Bool → StateChange → List (ℕ × ℕ) → List (ℕ × ℕ)
with_targets marks (Set targets rights) pairs = pairs ++ flat_map (λ (l, e). target_pairs marks l e) (zip targets rights)
with_targets marks (Draw target stream choice) pairs = with_reads marks target.variable pairs (location_reads target)

abbrev pub with_change : List Bool → StateChange → Collected → Collected
with_change marks c n = record n { pairs = with_targets marks c n.pairs; draws = n.draws ++ streams_drawn c }

abbrev pub with_changes : List Bool → List StateChange → Collected → Collected
with_changes marks [] n = n
with_changes marks (c ∷ cs) n = with_changes marks cs (with_change marks c n)

abbrev pub with_all_changes : List Bool → List EventVertex → Collected → Collected
with_all_changes marks [] n = n
with_all_changes marks (v ∷ vs) n = with_all_changes marks vs (with_changes marks v.changes n)

-- those of what an edge carries
abbrev pub edge_pairs : List Bool → EventGraph → EventEdge → List (ℕ × ℕ)
edge_pairs marks g e = flat_map (λ (v, x). value_pairs marks v x) (carried_pairs g e)

abbrev pub with_value_pairs : List Bool → EventGraph → List EventVertex → List (ℕ × ℕ) → List (ℕ × ℕ)
with_value_pairs marks g [] pairs = pairs
with_value_pairs marks g (v ∷ vs) pairs = with_value_pairs marks g vs (added_each (edge_pairs marks g) v.edges pairs)

-- ---- a model

-- what is drawn from a stream of a delay is needed at once
abbrev pub with_drawn : Collected → Collected
with_drawn n = record n { first = n.first ++ drawn_from n.delays n.draws }

-- what is needed at once is marked
abbrev pub marked_at_once : EventGraph → List Bool
marked_at_once g = entailed_marks (length g.variables) (collected_at_once g).first []

-- all pairs after what is needed at once
abbrev pub with_all_pairs : List Bool → EventGraph → Collected → Collected
with_all_pairs marks g n =
    let changed = with_all_changes marks g.vertices n in
    record changed { pairs = with_value_pairs marks g g.vertices changed.pairs }

-- all that is collected from a graph
abbrev pub all_needs : EventGraph → Collected
all_needs g = with_drawn (with_all_pairs (marked_at_once g) g (collected_at_once g))
