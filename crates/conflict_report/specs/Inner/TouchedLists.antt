-- What vertices touch, in lists to which one part after the other adds.
use Rattle.std.specs.Prelude.{ℕ, List, [], ◌∷◌, ◌++◌}
use Rattle.model_core.specs.EventGraph.{EventVertex, EventEdge, StateChange}
use Rattle.model_core.specs.Rules.Uses.{change_streams, edge_streams, vertex_reads, vertex_writes, vertex_streams}
use Rattle.model_core.specs.Conflicts.Conflict.{edge_cancelled, cancelled_vertices, named_vertices}

-- the variables that are read and that are written, the streams from which is drawn, and the vertices that are named and whose
-- events are cancelled
pub record TouchedLists : Type 0 where
  pub reads : List ℕ
  pub writes : List ℕ
  pub streams : List ℕ
  pub names : List ℕ
  pub cancels : List ℕ

abbrev pub nothing_touched : TouchedLists
nothing_touched = record { reads = []; writes = []; streams = []; names = []; cancels = [] }

-- what a change adds but the variables that it reads and writes
abbrev pub after_change : StateChange → TouchedLists → TouchedLists
after_change c t = record t { streams = t.streams ++ change_streams c }

abbrev pub after_changes : List StateChange → TouchedLists → TouchedLists
after_changes [] t = t
after_changes (c ∷ cs) t = after_changes cs (after_change c t)

-- what the form of an edge adds
abbrev pub after_form : EventEdge → TouchedLists → TouchedLists
after_form e t = record t { streams = t.streams ++ edge_streams e; cancels = t.cancels ++ edge_cancelled e }

-- what an edge adds but the variables that it reads
abbrev pub after_edge : EventEdge → TouchedLists → TouchedLists
after_edge e t = record t { streams = t.streams ++ edge_streams e; names = t.names ++ e.target ∷ []; cancels = t.cancels ++ edge_cancelled e }

abbrev pub after_edges : List EventEdge → TouchedLists → TouchedLists
after_edges [] t = t
after_edges (e ∷ es) t = after_edges es (after_edge e t)

-- what the vertex at a place adds, which names itself
abbrev pub after_vertex : ℕ → EventVertex → TouchedLists → TouchedLists
after_vertex place v t = record {
  reads = t.reads ++ vertex_reads v;
  writes = t.writes ++ vertex_writes v;
  streams = t.streams ++ vertex_streams v;
  names = t.names ++ place ∷ named_vertices v;
  cancels = t.cancels ++ cancelled_vertices v;
}
