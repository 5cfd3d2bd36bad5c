-- The running sums of a run, note by note.
use Rattle.std.specs.Prelude.{ℕ, suc, ◌+◌, ◌-◌, ◌^◌, min, max, ℤ, pos, ◌+ℤ◌, ◌*ℤ◌, cond, ◌==◌, List, [], ◌∷◌, ◌++◌, map, Some, None}
use Rattle.std.specs.List.{range_with_len}
use Rattle.model_core.specs.EventGraph.{EventGraph, Watched, WatchedVariable, WatchedVertex}
use Rattle.model_core.specs.Run.Machine.{Note, At, On}
use Rattle.model_core.specs.Saved.Cells.{cells_declared}
use Rattle.tally_report.specs.declared.item.Item.{Item}
use Rattle.tally_report.specs.declared.item.Item.TheVariants as items
use Rattle.tally_report.specs.declared.run_tally.RunEnd.{RunEnd}
use Rattle.tally_report.specs.declared.run_tally.RunTally.{RunTally}
use Rattle.tally_report.specs.declared.sums.Sum.{Sum}
use Rattle.tally_report.specs.SmallAreas.{IsSmallArea}
use Rattle.tally_report.specs.CellCourse.{widened, value_noted}

-- an item over so many ticks has a small area
abbrev pub IsSmall : ℕ → Item → Type 0
IsSmall ticks (items.Cell span area) = IsSmallArea ticks area
IsSmall ticks (items.Count n) = Unit

-- the last value holds on up to a time
abbrev pub held_until : ℕ → ℕ → Item → Item
held_until since time (items.Cell None area) = items.Cell None area
held_until since time (items.Cell (Some s) area) = items.Cell (Some s) (area +ℤ s.last *ℤ pos (time - since))
held_until since time (items.Count n) = items.Count n

abbrev pub with_value : ℤ → Item → Item
with_value x (items.Cell None area) = items.Cell (Some (record { least = x; greatest = x; last = x })) area
with_value x (items.Cell (Some s) area) = items.Cell (Some (widened s x)) area
with_value x (items.Count n) = items.Count n

abbrev pub occurred_once : Item → Item
occurred_once (items.Cell span area) = items.Cell span area
occurred_once (items.Count n) = items.Count (min (n + 1) (2 ^ 64 - 1))

-- a sum after an `at` note of a time, where the one before was at another
abbrev pub sum_at : EventGraph → List (List ℤ) → ℕ → ℕ → Sum → Sum
sum_at g values since time s = record s { item = with_value (value_noted g s.place s.index values) (held_until since time s.item) }

-- a sum after an `on` note of the vertex at a place
abbrev pub sum_on : ℕ → Sum → Sum
sum_on place s = cond (s.place == place) (record s { item = occurred_once s.item }) s

-- all sums, the time of the latest `at` note, and that of the last note of either kind
pub record Tallied : Type 0 where
  pub sums : List Sum
  pub since : ℕ
  pub latest : ℕ

abbrev pub after_note : EventGraph → Note → Tallied → Tallied
after_note g (At time values) t = record { sums = map (sum_at g values t.since (max t.since time)) t.sums; since = max t.since time; latest = time }
after_note g (On time place values) t = record t { sums = map (sum_on place) t.sums; latest = time }

abbrev pub after_notes : EventGraph → List Note → Tallied → Tallied
after_notes g [] t = t
after_notes g (note ∷ notes) t = after_notes g notes (after_note g note t)

-- ---- the sums of a run that hasn't begun

abbrev pub cell_sum : ℕ → ℕ → Sum
cell_sum place index = record { place = place; index = index; item = items.Cell None (pos 0) }

abbrev pub vertex_sum : ℕ → Sum
vertex_sum place = record { place = place; index = 0; item = items.Count 0 }

abbrev pub sums_at : EventGraph → ℕ → Watched → List Sum
sums_at g place (WatchedVariable v) = map (cell_sum place) (range_with_len 0 (cells_declared g v))
sums_at g place (WatchedVertex v) = vertex_sum place ∷ []

abbrev pub sums_from : EventGraph → ℕ → List Watched → List Sum
sums_from g place [] = []
sums_from g place (w ∷ watch) = sums_at g place w ++ sums_from g (suc place) watch

-- ---- the tally of a run

-- the tally of a run that came to this end at this time
abbrev pub tally_of_sums : RunEnd → ℕ → Tallied → RunTally
tally_of_sums end time t = record { end = end; time = time; items = map (λ (s : Sum). held_until t.since (max t.since time) s.item) t.sums }
