-- The course of one watched cell in a history: its values, each from the time of its `at` note on.
use Rattle.std.specs.Prelude.{ℕ, zero, suc, ◌-◌, ℤ, pos, ◌+ℤ◌, ◌*ℤ◌, List, [], ◌∷◌, Option, Some, None, slice_index_or}
use Rattle.std.specs.Int.{int_min, int_max}
use Rattle.model_core.specs.EventGraph.{EventGraph, Watched, WatchedVariable, WatchedVertex}
use Rattle.model_core.specs.Run.Machine.{Note, At, On}
use Rattle.tally_report.specs.declared.item.Span.{Span}

-- a value, and the time from which on it holds
pub record ValueSince : Type 0 where
  pub since : ℕ
  pub value : ℤ

-- the values noted of the cells of the watched thing at a place of the watch list
abbrev pub cells_noted : List Watched → List (List ℤ) → ℕ → List ℤ
cells_noted [] values place = []
cells_noted (WatchedVertex v ∷ watch) values zero = []
cells_noted (WatchedVertex v ∷ watch) values (suc place) = cells_noted watch values place
cells_noted (WatchedVariable v ∷ watch) [] place = []
cells_noted (WatchedVariable v ∷ watch) (cells ∷ later) zero = cells
cells_noted (WatchedVariable v ∷ watch) (cells ∷ later) (suc place) = cells_noted watch later place

-- the value noted of the cell at an index there
abbrev pub value_noted : EventGraph → ℕ → ℕ → List (List ℤ) → ℤ
value_noted g place index values = slice_index_or (cells_noted g.watch values place) index (pos 0)

-- the course of that cell: its value at each `at` note
abbrev pub course : EventGraph → ℕ → ℕ → List Note → List ValueSince
course g place index [] = []
course g place index (On time at values ∷ notes) = course g place index notes
course g place index (At time values ∷ notes) = record { since = time; value = value_noted g place index values } ∷ course g place index notes

-- the least, the greatest and the last of values, with one more
abbrev pub widened : Span → ℤ → Span
widened s x = record { least = int_min s.least x; greatest = int_max s.greatest x; last = x }

abbrev pub span_from : Span → List ValueSince → Span
span_from s [] = s
span_from s (h ∷ later) = span_from (widened s h.value) later

-- the least, the greatest and the last value of a course, if it has one
abbrev pub span_of : List ValueSince → Option Span
span_of [] = None
span_of (h ∷ later) = Some (span_from (record { least = h.value; greatest = h.value; last = h.value }) later)

-- each value times how long it holds, up to the next or, the last one, up to the end
abbrev pub area_from : ValueSince → List ValueSince → ℕ → ℤ
area_from h [] end = h.value *ℤ pos (end - h.since)
area_from h (k ∷ later) end = h.value *ℤ pos (k.since - h.since) +ℤ area_from k later end

-- the area under a course that ends at a time
abbrev pub area_of : List ValueSince → ℕ → ℤ
area_of [] end = pos 0
area_of (h ∷ later) end = area_from h later end
