-- What is needed since something may fault, but for what is marked, collected part by part.
use Rattle.std.specs.Prelude.{ℕ, Bool, cond, List, [], ◌∷◌, ◌++◌, zip}
use Rattle.std.specs.List.{flat_map}
use Rattle.model_core.specs.EventGraph.{EventGraph, EventVertex, EventEdge, StateChange, Set, Draw, is_scheduling, scalar_location}
use Rattle.model_core.specs.Rules.BoundsOfParts.{quiet_set, quiet_change}
use Rattle.model_core.specs.Rules.MarkedPlaces.{is_marked}
use Rattle.model_core.specs.Rules.Needed.{carried_pairs}
use Rattle.var_slicing.specs.Inner.Needing.{added_each}

-- a variable, unless it is marked or what is stored in it is quiet
abbrev pub fault_unless : List Bool → ℕ → Bool → List ℕ
fault_unless marks v quiet = cond (is_marked marks v) [] (cond quiet [] (v ∷ []))

abbrev pub faults_in_change : List Bool → EventGraph → StateChange → List ℕ
faults_in_change marks g (Set targets rights) = flat_map (λ (l, e). fault_unless marks l.variable (quiet_set g l e)) (zip targets rights)
faults_in_change marks g (Draw target stream choice) = fault_unless marks target.variable (quiet_change g (Draw target stream choice))

abbrev pub faults_in_edge : List Bool → EventGraph → EventEdge → List ℕ
faults_in_edge marks g e = cond (is_scheduling e.kind) (flat_map (λ (v, x). fault_unless marks v (quiet_set g (scalar_location v) x)) (carried_pairs g e)) []

-- of each vertex the changes and then the edges
abbrev pub faults_in_vertex : List Bool → EventGraph → EventVertex → List ℕ
faults_in_vertex marks g v = flat_map (faults_in_change marks g) v.changes ++ flat_map (faults_in_edge marks g) v.edges

abbrev pub with_faults : List Bool → EventGraph → List EventVertex → List ℕ → List ℕ
with_faults marks g [] out = out
with_faults marks g (v ∷ vs) out = with_faults marks g vs (added_each (faults_in_edge marks g) v.edges (added_each (faults_in_change marks g) v.changes out))

-- all of a graph
abbrev pub faulting_unless : List Bool → EventGraph → List ℕ
faulting_unless marks g = flat_map (faults_in_vertex marks g) g.vertices
