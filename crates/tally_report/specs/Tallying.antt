-- The tally of a run, from its notes and its standing alone.
use Rattle.std.specs.Prelude.{ℕ, suc, ◌+◌, cond, ◌==◌, List, [], ◌∷◌, ◌++◌, map}
use Rattle.std.specs.List.{range_with_len}
use Rattle.model_core.specs.EventGraph.{EventGraph, Watched, WatchedVariable, WatchedVertex}
use Rattle.model_core.specs.Run.Machine.{Note, At, On, RunStatus, Ended, Stopped, Faulted, Going, Look}
use Rattle.model_core.specs.Saved.Cells.{cells_declared}
use Rattle.tally_report.specs.declared.item.Item.{Item}
use Rattle.tally_report.specs.declared.item.Item.TheVariants as items
use Rattle.tally_report.specs.declared.run_tally.RunEnd.{RunEnd}
use Rattle.tally_report.specs.declared.run_tally.RunEnd.TheVariants as ends
use Rattle.tally_report.specs.declared.run_tally.RunTally.{RunTally}
use Rattle.tally_report.specs.CellCourse.{course, span_of, area_of}

-- the subject of an item: the cell at an index of the watched thing at a place of the watch list, or the vertex at a
-- place
pub data ItemOf : Type 0 where
  CellAt : ℕ → ℕ → ItemOf
  VertexAt : ℕ → ItemOf

-- the subjects of the watched thing at a place of the watch list
abbrev pub items_at : EventGraph → ℕ → Watched → List ItemOf
items_at g place (WatchedVariable v) = map (CellAt place) (range_with_len 0 (cells_declared g v))
items_at g place (WatchedVertex v) = VertexAt place ∷ []

abbrev pub items_reported_from : EventGraph → ℕ → List Watched → List ItemOf
items_reported_from g place [] = []
items_reported_from g place (w ∷ watch) = items_at g place w ++ items_reported_from g (suc place) watch

-- all items of a model, in the order of its watch list
abbrev pub items_reported : EventGraph → List ItemOf
items_reported g = items_reported_from g 0 g.watch

-- how many `on` notes there are of the vertex at a place
abbrev pub occurrences : ℕ → List Note → ℕ
occurrences place [] = 0
occurrences place (At time values ∷ notes) = occurrences place notes
occurrences place (On time at values ∷ notes) = cond (place == at) 1 0 + occurrences place notes

-- the item of a subject
abbrev pub item_of_notes : EventGraph → List Note → ℕ → ItemOf → Item
item_of_notes g notes end (CellAt place index) = items.Cell (span_of (course g place index notes)) (area_of (course g place index notes) end)
item_of_notes g notes end (VertexAt place) = items.Count (occurrences place notes)

abbrev pub note_time : Note → ℕ
note_time (At time values) = time
note_time (On time place values) = time

-- the time of the last note: this one where there is none
abbrev pub last_time : ℕ → List Note → ℕ
last_time time [] = time
last_time time (note ∷ notes) = last_time (note_time note) notes

abbrev pub run_end : RunStatus → RunEnd
run_end (Ended time) = ends.Ended
run_end Stopped = ends.Stopped
run_end (Faulted time kind) = ends.Fault
run_end Going = ends.Budget

-- the time at which a run with this stop time ends: where it goes on, that of its last note
abbrev pub end_time : ℕ → List Note → RunStatus → ℕ
end_time until notes (Ended time) = time
end_time until notes Stopped = until
end_time until notes (Faulted time kind) = time
end_time until notes Going = last_time 0 notes

abbrev pub tally_of : EventGraph → ℕ → Look → RunTally
tally_of g until seen =
    let time = end_time until seen.history seen.standing in
    record { end = run_end seen.standing; time = time; items = map (item_of_notes g seen.history time) (items_reported g) }
