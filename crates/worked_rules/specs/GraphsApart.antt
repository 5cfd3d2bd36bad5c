-- A small model, and for each part of it one that differs there alone.
use Rattle.std.specs.Prelude.{pos, true, false, List, [], ◌∷◌, codes}
use Rattle.model_core.specs.declared.model.Kind.TheVariants as kinds
use Rattle.model_core.specs.EventGraph.{EventGraph, Variable, WeightTable, EventVertex, WatchedVariable, WatchedVertex}
use Rattle.worked_runs.specs.Building.{whole, set, schedule, event, takes}

abbrev pub one_variable : Variable
one_variable = record { name = codes "X"; size = 2; kind = kinds.Range; lo = pos 0; hi = pos 9; clip = false; initial = pos 1 }

abbrev pub one_table : WeightTable
one_table = record { name = codes "T"; rows = record { value = pos 1; weight = 2 } ∷ record { value = pos 3; weight = 4 } ∷ [] }

abbrev pub plain_vertex : EventVertex
plain_vertex = takes (0 ∷ []) (event (codes "RUN") (set 0 (whole 1) ∷ []) (schedule 0 (whole 2) ∷ []))

abbrev pub plain_graph : EventGraph
plain_graph = record { name = codes "G"; variables = one_variable ∷ []; tables = one_table ∷ []; watch = WatchedVariable 0 ∷ []; vertices = plain_vertex ∷ [] }

abbrev pub plain_with_variable : Variable → EventGraph
plain_with_variable v = record plain_graph { variables = v ∷ [] }

abbrev pub plain_with_table : WeightTable → EventGraph
plain_with_table t = record plain_graph { tables = t ∷ [] }

abbrev pub plain_with_vertex : EventVertex → EventGraph
plain_with_vertex v = record plain_graph { vertices = v ∷ [] }

abbrev pub graphs_apart : List EventGraph
graphs_apart =
    plain_graph ∷
    record plain_graph { name = codes "H" } ∷
    record plain_graph { name = codes "GG" } ∷
    plain_with_variable (record one_variable { name = codes "Y" }) ∷
    plain_with_variable (record one_variable { size = 3 }) ∷
    plain_with_variable (record one_variable { kind = kinds.Truth }) ∷
    plain_with_variable (record one_variable { lo = pos 1 }) ∷
    plain_with_variable (record one_variable { hi = pos 8 }) ∷
    plain_with_variable (record one_variable { clip = true }) ∷
    plain_with_variable (record one_variable { initial = pos 0 }) ∷
    record plain_graph { variables = one_variable ∷ one_variable ∷ [] } ∷
    plain_with_table (record one_table { name = codes "U" }) ∷
    plain_with_table (record one_table { rows = record { value = pos 2; weight = 2 } ∷ record { value = pos 3; weight = 4 } ∷ [] }) ∷
    plain_with_table (record one_table { rows = record { value = pos 1; weight = 2 } ∷ record { value = pos 3; weight = 5 } ∷ [] }) ∷
    plain_with_table (record one_table { rows = record { value = pos 1; weight = 2 } ∷ [] }) ∷
    record plain_graph { tables = [] } ∷
    record plain_graph { watch = WatchedVertex 0 ∷ [] } ∷
    record plain_graph { watch = WatchedVariable 1 ∷ [] } ∷
    record plain_graph { watch = WatchedVertex 1 ∷ [] } ∷
    record plain_graph { watch = [] } ∷
    plain_with_vertex (record plain_vertex { name = codes "GO" }) ∷
    plain_with_vertex (record plain_vertex { parameters = 1 ∷ [] }) ∷
    plain_with_vertex (record plain_vertex { changes = set 0 (whole 2) ∷ [] }) ∷
    plain_with_vertex (record plain_vertex { edges = schedule 0 (whole 3) ∷ [] }) ∷
    record plain_graph { vertices = plain_vertex ∷ plain_vertex ∷ [] } ∷
    []
