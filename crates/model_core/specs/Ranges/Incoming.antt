-- What variables take under given ranges: bounds of what is set, drawn and carried into each.
use Rattle.std.specs.Prelude.{ℕ, ℤ, int_le, true, ◌&&◌, cond, List, [], ◌∷◌, ◌++◌, map, Option, Some, None}
use Rattle.std.specs.List.{flat_map}
use Rattle.std.specs.Int.{int_min, int_max}
use Rattle.model_core.specs.declared.bounds.Bounds.{Bounds}
use Rattle.model_core.specs.EventGraph.{EventGraph, EventVertex, Variable, Expression, Location, StateChange, Set, Draw, EventEdge, is_scheduling}
use Rattle.model_core.specs.Run.Step.{vertex_at}
use Rattle.model_core.specs.Rules.BoundsOf.{bounds_under}
use Rattle.model_core.specs.Rules.BoundsOfParts.{choice_bounds}
use Rattle.model_core.specs.declared.incoming.Incoming.{Incoming}
use Rattle.model_core.specs.declared.var_range.VarRange.{VarRange}
use Rattle.model_core.specs.Ranges.OtherRanges.{declared_range, with_ranges}
use Rattle.model_core.specs.Ranges.Refined.{refined}

-- each variable takes the value at the same place
abbrev pub assigned : List Variable → List ℕ → List Expression → List Incoming
assigned ranges (v ∷ vs) (e ∷ es) = record { variable = v; bounds = bounds_under refined ranges e } ∷ assigned ranges vs es
assigned ranges vs es = []

-- what variables take by a change
abbrev pub into_change : EventGraph → List Variable → StateChange → List Incoming
into_change g ranges (Set targets values) = assigned ranges (map (λ (l : Location). l.variable) targets) values
into_change g ranges (Draw target stream choice) = record { variable = target.variable; bounds = choice_bounds g choice } ∷ []

-- the parameters of the vertex that an edge schedules take what it carries, where its condition can be true
abbrev pub into_edge : EventGraph → List Variable → EventEdge → List Incoming
into_edge g ranges e =
    cond (is_scheduling e.kind && (bounds_under refined ranges e.condition).can_true)
    (assigned (refined e.condition true ranges) (vertex_at g e.target).parameters e.values) []

-- what variables take by the changes of an event and by its edges
abbrev pub into_vertex : EventGraph → List Variable → EventVertex → List Incoming
into_vertex g ranges v = flat_map (into_change g ranges) v.changes ++ flat_map (into_edge g ranges) v.edges

-- all that a model's variables take
abbrev pub incoming : EventGraph → List VarRange → List Incoming
incoming g ranges = flat_map (into_vertex g (with_ranges g.variables ranges)) g.vertices

-- ---- what a variable keeps of it

-- the nearest number of a variable's declared range
abbrev pub nearest_declared : Variable → ℤ → ℤ
nearest_declared v x = int_max v.lo (int_min v.hi x)

-- what two ranges have in common, if anything
abbrev pub overlap : VarRange → VarRange → Option VarRange
overlap a b =
    let both : VarRange = record { lo = int_max a.lo b.lo; hi = int_min a.hi b.hi } in
    cond (int_le both.lo both.hi) (Some both) None

-- The range of what a variable keeps of values of these bounds, if it keeps any. One that clips keeps the nearest number of
-- its declared range, and any other only what lies in it.
abbrev pub kept_range : Variable → Bounds → Option VarRange
kept_range v b =
    cond v.clip (Some (record { lo = nearest_declared v b.lo; hi = nearest_declared v b.hi }))
    (overlap (declared_range v) (record { lo = b.lo; hi = b.hi }))
