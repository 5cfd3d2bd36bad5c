-- Tables of what vertices touch, vertex by vertex, and the reasons that are found by them.
use Rattle.std.proofs.Common.{◌≡◌, ℕ, ◌+◌, ◌<◌, Bool, ◌||◌, cond, List, [], ◌∷◌, ◌++◌, length, sym, ap, ap₂, subst, ◌∙◌}
use Rattle.std.proofs.lemmas.Bool.{lt-ltb}
use Rattle.model_core.specs.EventGraph.{EventGraph}
use Rattle.model_core.specs.Run.Step.{vertex_at}
use Rattle.model_core.specs.Rules.Uses.{vertex_reads, vertex_writes, vertex_streams}
use Rattle.model_core.specs.declared.reasons.Reasons.{Reasons}
use Rattle.model_core.specs.Conflicts.Priorities.{priorities_of}
use Rattle.model_core.specs.Conflicts.Conflict.{in_common, named_vertices, cancelled_vertices, reasons_of}
use Rattle.conflict_report.specs.declared.conflict_tables.ConflictTables.{ConflictTables}
use Rattle.conflict_report.specs.declared.conflict_tables.Partners.{Partners}
use Rattle.conflict_report.specs.Inner.NumberHolders.{hold_common, HoldExactly, HoldMore, only_at, numbers_before}
use Rattle.conflict_report.specs.Inner.TouchedLists.{TouchedLists, nothing_touched, after_vertex}
use Rattle.conflict_report.specs.Inner.ReasonsFound.{NotedAt, NotedBefore, ArePartners, reasons_with}
use Rattle.conflict_report.proofs.NumbersNoted.{hold-two_lists, noted-next, common-found}
use Rattle.conflict_report.proofs.NumbersInCommon.{in_common-turned}

-- the numbers that were noted are those of a list
noted-list : (place : ℕ) (old new : List (List ℕ)) (numbers list : List ℕ) → numbers ≡ list → HoldMore (only_at place numbers) old new → HoldMore (only_at place list) old new
noted-list place old new numbers list is noted = subst (λ (ns : List ℕ). HoldMore (only_at place ns) old new) is noted

-- what one vertex touches, list by list
pub vertex-noted : (place : ℕ) (touched opened : TouchedLists) (old new : ConflictTables) (used : List (List ℕ)) (writes reads writes_too streams names cancels : List ℕ)
    → opened ≡ touched → writes ≡ opened.writes → reads ≡ opened.reads → writes_too ≡ opened.writes → streams ≡ opened.streams → names ≡ opened.names → cancels ≡ opened.cancels
    → new.by_priority ≡ old.by_priority
    → HoldMore (only_at place writes) old.by_written new.by_written → HoldMore (only_at place reads) old.by_used used → HoldMore (only_at place writes_too) used new.by_used
    → HoldMore (only_at place streams) old.by_stream new.by_stream → HoldMore (only_at place names) old.by_named new.by_named → HoldMore (only_at place cancels) old.by_cancelled new.by_cancelled
    → NotedAt place touched old new
vertex-noted place touched opened old new used writes reads writes_too streams names cancels is w r x s n c same written read written_too drawn named cancelled = subst (λ (t : TouchedLists). NotedAt place t old new) is (record {
  by_priority = same;
  by_written = noted-list place old.by_written new.by_written writes opened.writes w written;
  by_used = hold-two_lists opened.reads opened.writes place old.by_used used new.by_used (noted-list place old.by_used used reads opened.reads r read) (noted-list place used new.by_used writes_too opened.writes x written_too);
  by_stream = noted-list place old.by_stream new.by_stream streams opened.streams s drawn;
  by_named = noted-list place old.by_named new.by_named names opened.names n named;
  by_cancelled = noted-list place old.by_cancelled new.by_cancelled cancels opened.cancels c cancelled;
})

-- one vertex more
pub tables-next : (g : EventGraph) (place : ℕ) (old new : ConflictTables) → NotedBefore g place old → NotedAt place (after_vertex place (vertex_at g place) nothing_touched) old new → NotedBefore g (place + 1) new
tables-next g place old new before at = record {
  by_priority = subst (HoldExactly (priorities_of g)) (sym at.by_priority) before.by_priority;
  by_written = noted-next (λ j. vertex_writes (vertex_at g j)) place old.by_written new.by_written before.by_written at.by_written;
  by_used = noted-next (λ j. vertex_reads (vertex_at g j) ++ vertex_writes (vertex_at g j)) place old.by_used new.by_used before.by_used at.by_used;
  by_stream = noted-next (λ j. vertex_streams (vertex_at g j)) place old.by_stream new.by_stream before.by_stream at.by_stream;
  by_named = noted-next (λ j. j ∷ named_vertices (vertex_at g j)) place old.by_named new.by_named before.by_named at.by_named;
  by_cancelled = noted-next (λ j. cancelled_vertices (vertex_at g j)) place old.by_cancelled new.by_cancelled before.by_cancelled at.by_cancelled;
}

-- ---- the reasons

module _ (n a b : ℕ) (first : a < n) (second : b < n) where
  at : (L : ℕ → List ℕ) (j : ℕ) → j < n → numbers_before n L j ≡ L j
  at L j below = ap (λ c. cond c (L j) []) (lt-ltb j n below)

  found : (K L : ℕ → List ℕ) (sets others : List (List ℕ)) → HoldExactly (numbers_before n K) sets → HoldExactly (numbers_before n L) others → hold_common sets others a b ≡ in_common (K a) (L b)
  found K L sets others here there = common-found (numbers_before n K) (numbers_before n L) sets others here there a b ∙ ap₂ in_common (at K a first) (at L b second)

  -- either way
  found-either : (K L : ℕ → List ℕ) (sets others : List (List ℕ)) → HoldExactly (numbers_before n K) sets → HoldExactly (numbers_before n L) others → (hold_common sets others a b || hold_common others sets a b) ≡ (in_common (K a) (L b) || in_common (K b) (L a))
  found-either K L sets others here there = ap₂ (λ c d. c || d) (found K L sets others here there) (found L K others sets there here ∙ in_common-turned (L a) (K b))

same_reasons : (m n v w s t c d : Bool) → m ≡ n → v ≡ w → s ≡ t → c ≡ d
    → let r1 : Reasons = record { meet = m; variables = v; streams = s; cancels = c } in
    let r2 : Reasons = record { meet = n; variables = w; streams = t; cancels = d } in r1 ≡ r2
same_reasons m n v w s t c d meet variables streams cancels = λ i. record { meet = meet i; variables = variables i; streams = streams i; cancels = cancels i }

-- the sets of a vertex show the reasons of each pair
pub reasons-found : (g : EventGraph) (t : ConflictTables) (p : Partners) (a b : ℕ) → NotedBefore g (length g.vertices) t → ArePartners t a p → a < length g.vertices → b < length g.vertices → reasons_with p b ≡ reasons_of g a b
reasons-found g t p a b noted are first second =
    let n = length g.vertices in
    same_reasons _ _ _ _ _ _ _ _
    (are.meet b ∙ common-found (priorities_of g) (priorities_of g) t.by_priority t.by_priority noted.by_priority noted.by_priority a b)
    (are.variables b ∙ found-either n a b first second (λ j. vertex_writes (vertex_at g j)) (λ j. vertex_reads (vertex_at g j) ++ vertex_writes (vertex_at g j)) t.by_written t.by_used noted.by_written noted.by_used)
    (are.streams b ∙ found n a b first second (λ j. vertex_streams (vertex_at g j)) (λ j. vertex_streams (vertex_at g j)) t.by_stream t.by_stream noted.by_stream noted.by_stream)
    (are.cancels b ∙ found-either n a b first second (λ j. cancelled_vertices (vertex_at g j)) (λ j. j ∷ named_vertices (vertex_at g j)) t.by_cancelled t.by_named noted.by_cancelled noted.by_named)
