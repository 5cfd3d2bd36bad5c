-- What variables take by the parts that are looked at: by all of them, or by those that read a variable whose range moved.
use Rattle.std.specs.Prelude.{◌≡◌, ◌⊎◌, ℕ, Bool, true, false, ◌&&◌, ◌||◌, cond, List, [], ◌∷◌, ◌++◌, map, Contains}
use Rattle.std.specs.List.{list_any, flat_map}
use Rattle.model_core.specs.EventGraph.{EventGraph, EventVertex, EventEdge, StateChange, Set, Draw, Variable, Expression, Location, is_scheduling}
use Rattle.model_core.specs.Run.Step.{vertex_at}
use Rattle.model_core.specs.Rules.BoundsOf.{bounds_under}
use Rattle.model_core.specs.Rules.Uses.{variables_in}
use Rattle.model_core.specs.declared.incoming.Incoming.{Incoming}
use Rattle.model_core.specs.declared.var_range.VarRange.{VarRange}
use Rattle.model_core.specs.Ranges.OtherRanges.{with_ranges}
use Rattle.model_core.specs.Ranges.Refined.{refined}
use Rattle.model_core.specs.Ranges.Incoming.{into_change}
use Rattle.range_infer.specs.Inner.Moved.{is_moved, MarksMoved}
use Rattle.range_infer.specs.Inner.PartReads.{each_reads, parts_read}
use Rattle.range_infer.specs.declared.part_reads.ValueReads.{ValueReads}
use Rattle.range_infer.specs.declared.readers.PartPlace.{PartPlace}
use Rattle.range_infer.specs.Inner.Readers.{one_at, part_vars}

-- a part is looked at that reads these variables
abbrev pub looks_at : Bool → List Bool → List ℕ → Bool
looks_at all moved reads = all || list_any (is_moved moved) reads

abbrev pub looks_at_value : Bool → List Bool → ValueReads → Bool
looks_at_value all moved value = looks_at all moved value.vars

-- each variable takes the value at the same place, if the value is looked at
abbrev pub assigned_seen : Bool → List Bool → List Variable → List ℕ → List Expression → List Incoming
assigned_seen all moved ranges (v ∷ vs) (e ∷ es) =
    cond (looks_at all moved (variables_in e)) (record { variable = v; bounds = bounds_under refined ranges e } ∷ []) [] ++ assigned_seen all moved ranges vs es
assigned_seen all moved ranges vs es = []

-- what is drawn reads none
abbrev pub change_seen : EventGraph → Bool → List Bool → List Variable → StateChange → List Incoming
change_seen g all moved ranges (Set targets values) = assigned_seen all moved ranges (map (λ (l : Location). l.variable) targets) values
change_seen g all moved ranges (Draw target stream choice) = cond all (into_change g ranges (Draw target stream choice)) []

-- what an edge carries by those of its values that are looked at, if there are such
abbrev pub values_seen : EventGraph → Bool → List Bool → List Variable → EventEdge → List Incoming
values_seen g all moved ranges e =
    cond (is_scheduling e.kind && list_any (looks_at_value all moved) (each_reads e.values))
    (cond (bounds_under refined ranges e.condition).can_true (assigned_seen all moved (refined e.condition true ranges) (vertex_at g e.target).parameters e.values) []) []

-- all its values are looked at where its condition is
abbrev pub edge_seen : EventGraph → Bool → List Bool → List Variable → EventEdge → List Incoming
edge_seen g all moved ranges e = values_seen g (looks_at all moved (variables_in e.condition)) moved ranges e

abbrev pub vertex_seen : EventGraph → Bool → List Bool → List Variable → EventVertex → List Incoming
vertex_seen g all moved ranges v = flat_map (change_seen g all moved ranges) v.changes ++ flat_map (edge_seen g all moved ranges) v.edges

-- by all vertices of a model
abbrev pub incoming_seen : EventGraph → Bool → List Bool → List VarRange → List Incoming
incoming_seen g all moved ranges = flat_map (vertex_seen g all moved (with_ranges g.variables ranges)) g.vertices

-- by the part of a vertex at a place, and by the part at a place of vertices
abbrev pub vertex_part_seen : EventGraph → Bool → List Bool → List Variable → PartPlace → EventVertex → List Incoming
vertex_part_seen g all moved ranges p v =
    cond p.is_edge (flat_map (edge_seen g all moved ranges) (one_at p.place v.edges)) (flat_map (change_seen g all moved ranges) (one_at p.place v.changes))

abbrev pub part_seen : EventGraph → Bool → List Bool → List Variable → List EventVertex → PartPlace → List Incoming
part_seen g all moved ranges vs p = flat_map (vertex_part_seen g all moved ranges p) (one_at p.vertex vs)

-- what is taken by some of the parts, among which are all that read a variable that moved
pub record TakenByReaders (g : EventGraph) (moved : List Bool) (ranges : List VarRange) (takes : List Incoming) : Type 0 where
  pub parts : List PartPlace
  pub are_all : (p : PartPlace) (v : ℕ) → Contains (part_vars (map parts_read g.vertices) p) v → is_moved moved v ≡ true → Contains parts p
  pub are : takes ≡ flat_map (part_seen g false moved (with_ranges g.variables ranges) g.vertices) parts

-- what is taken by the parts that read a variable whose range was another one: the ranges were `old` and are `new`
pub record TakesAgain (g : EventGraph) (old new : List VarRange) (takes : List Incoming) : Type 0 where
  pub moved : List Bool
  pub marks : MarksMoved old new moved
  pub are : (takes ≡ incoming_seen g false moved new) ⊎ TakenByReaders g moved new takes
