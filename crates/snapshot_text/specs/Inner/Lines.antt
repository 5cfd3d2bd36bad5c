-- Lines of the text of a snapshot, cut where the code that prints it is cut.
use Rattle.std.specs.Prelude.{ℕ, ◌==◌, ℤ, if◌then◌else◌, List, [], ◌++◌, codes, decimal}
use Rattle.std.specs.List.{flat_map}
use Rattle.model_core.specs.EventGraph.{EventGraph, Variable}
use Rattle.model_core.specs.Run.Pending.{Entry}
use Rattle.model_core.specs.Text.Canonical.{vertex_name}
use Rattle.model_core.specs.Saved.SavedRun.{SavedRun}
use Rattle.model_core.specs.Text.SnapshotText.{comma_values, stream_lines, value_lines, noted_line, carried_text, pending_line}

abbrev pub stream_line : ℕ → ℕ → List ℕ
stream_line stream n = if n == 0 then [] else codes "stream " ++ decimal stream ++ codes " " ++ decimal n ++ codes "\n"

abbrev pub value_line : Variable → List ℤ → List ℕ
value_line v values = codes "value " ++ v.name ++ codes " " ++ comma_values values ++ codes "\n"

-- the line of an event that occurs in so many ticks
abbrev pub event_line : EventGraph → ℕ → Entry → List ℕ
event_line g ticks e = codes "pending " ++ decimal ticks ++ codes " " ++ decimal e.priority ++ codes " " ++ vertex_name g e.vertex ++ carried_text e.values ++ codes "\n"

abbrev pub seed_lines : ℕ → ℕ → List ℕ
seed_lines high low = codes "snapshot\nseed " ++ decimal high ++ codes " " ++ decimal low ++ codes "\n"

abbrev pub clock_lines : ℕ → ℕ → List ℕ
clock_lines clock events = codes "clk " ++ decimal clock ++ codes "\nevents " ++ decimal events ++ codes "\n"

abbrev pub last_lines : EventGraph → SavedRun → List ℕ
last_lines g s = stream_lines 0 s.taken ++ value_lines g.variables s.values ++ noted_line s.noted ++ flat_map (pending_line g s.clock) s.pending ++ codes "end\n"
