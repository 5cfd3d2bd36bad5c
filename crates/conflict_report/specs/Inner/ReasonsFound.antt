-- The tables of a model's vertices by what they touch, and the reasons of a conflict that are found by them.
use Rattle.std.specs.Prelude.{◌≡◌, ℕ, ◌||◌, cond, List, [], ◌∷◌, ◌++◌}
use Rattle.model_core.specs.EventGraph.{EventGraph}
use Rattle.model_core.specs.Run.Step.{vertex_at}
use Rattle.model_core.specs.Rules.Uses.{vertex_reads, vertex_writes, vertex_streams}
use Rattle.model_core.specs.declared.reasons.Reasons.{Reasons}
use Rattle.model_core.specs.declared.reasons.Pair.{Pair}
use Rattle.model_core.specs.Conflicts.Priorities.{priorities_of}
use Rattle.model_core.specs.Conflicts.Conflict.{is_conflict, named_vertices, cancelled_vertices}
use Rattle.conflict_report.specs.declared.conflict_tables.ConflictTables.{ConflictTables}
use Rattle.conflict_report.specs.declared.conflict_tables.Partners.{Partners}
use Rattle.conflict_report.specs.Inner.NumberHolders.{has_vertex, hold_common, HoldExactly, HoldMore, only_at, numbers_before}
use Rattle.conflict_report.specs.Inner.TouchedLists.{TouchedLists}

-- the tables hold what the vertex at a place touches, and what they held before
pub record NotedAt (place : ℕ) (lists : TouchedLists) (old new : ConflictTables) : Type 0 where
  pub by_priority : new.by_priority ≡ old.by_priority
  pub by_written : HoldMore (only_at place lists.writes) old.by_written new.by_written
  pub by_used : HoldMore (only_at place (lists.reads ++ lists.writes)) old.by_used new.by_used
  pub by_stream : HoldMore (only_at place lists.streams) old.by_stream new.by_stream
  pub by_named : HoldMore (only_at place lists.names) old.by_named new.by_named
  pub by_cancelled : HoldMore (only_at place lists.cancels) old.by_cancelled new.by_cancelled

-- the tables hold the priorities of all vertices, and what those before a place touch
pub record NotedBefore (g : EventGraph) (place : ℕ) (t : ConflictTables) : Type 0 where
  pub by_priority : HoldExactly (priorities_of g) t.by_priority
  pub by_written : HoldExactly (numbers_before place (λ j. vertex_writes (vertex_at g j))) t.by_written
  pub by_used : HoldExactly (numbers_before place (λ j. vertex_reads (vertex_at g j) ++ vertex_writes (vertex_at g j))) t.by_used
  pub by_stream : HoldExactly (numbers_before place (λ j. vertex_streams (vertex_at g j))) t.by_stream
  pub by_named : HoldExactly (numbers_before place (λ j. j ∷ named_vertices (vertex_at g j))) t.by_named
  pub by_cancelled : HoldExactly (numbers_before place (λ j. cancelled_vertices (vertex_at g j))) t.by_cancelled

-- the sets hold the vertices for which each reason holds by the tables
pub record ArePartners (t : ConflictTables) (vertex : ℕ) (p : Partners) : Type 0 where
  pub meet : (j : ℕ) → has_vertex p.meet j ≡ hold_common t.by_priority t.by_priority vertex j
  pub variables : (j : ℕ) → has_vertex p.variables j ≡ (hold_common t.by_written t.by_used vertex j || hold_common t.by_used t.by_written vertex j)
  pub streams : (j : ℕ) → has_vertex p.streams j ≡ hold_common t.by_stream t.by_stream vertex j
  pub cancels : (j : ℕ) → has_vertex p.cancels j ≡ (hold_common t.by_cancelled t.by_named vertex j || hold_common t.by_named t.by_cancelled vertex j)

-- the reasons that the sets of a vertex show
abbrev pub reasons_with : Partners → ℕ → Reasons
reasons_with p vertex = record {
  meet = has_vertex p.meet vertex;
  variables = has_vertex p.variables vertex;
  streams = has_vertex p.streams vertex;
  cancels = has_vertex p.cancels vertex;
}

-- the pair of two vertices, if the reasons that the sets of the first show are a conflict
abbrev pub pair_with : Partners → ℕ → ℕ → List Pair
pair_with p a b = cond (is_conflict (reasons_with p b)) (record { a = a; b = b; reasons = reasons_with p b } ∷ []) []
