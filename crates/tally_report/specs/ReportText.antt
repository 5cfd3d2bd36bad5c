-- The rows of a report, as text with commas.
use Rattle.std.specs.Prelude.{ℕ, zero, suc, Bool, true, false, cond, List, [], ◌∷◌, ◌++◌, map, Some, None, slice_get, codes, decimal}
use Rattle.std.specs.Fmt.{signed_decimal}
use Rattle.std.specs.List.{flat_map, range_with_len}
use Rattle.std.specs.Option.{option_map_or}
use Rattle.csv.specs.Writing.{default_writer, row_text}
use Rattle.model_core.specs.EventGraph.{EventGraph, Variable, Watched, WatchedVariable, WatchedVertex}
use Rattle.model_core.specs.Text.Canonical.{vertex_name}
use Rattle.tally_report.specs.declared.item.Item.{Item}
use Rattle.tally_report.specs.declared.item.Item.TheVariants as items
use Rattle.tally_report.specs.declared.run_tally.RunEnd.{RunEnd}
use Rattle.tally_report.specs.declared.run_tally.RunEnd.TheVariants as ends
use Rattle.tally_report.specs.declared.run_tally.RunTally.{RunTally}
use Rattle.tally_report.specs.Totalling.{RunTotals}

-- the text of a row of fields
abbrev pub row_of_fields : List (List ℕ) → List ℕ
row_of_fields fields = row_text default_writer fields

abbrev pub header_row : List ℕ
header_row = row_of_fields (codes "run" ∷ codes "seed" ∷ codes "outcome" ∷ codes "time" ∷ codes "item" ∷ codes "least" ∷ codes "greatest" ∷ codes "last" ∷ codes "area" ∷ codes "count" ∷ [])

-- ---- the names of items

-- a cell of an array has its index in brackets
abbrev pub cell_name : List ℕ → ℕ → List ℕ
cell_name name index = name ++ codes "[" ++ decimal index ++ codes "]"

abbrev pub sized_names : List ℕ → ℕ → List (List ℕ)
sized_names name zero = name ∷ []
sized_names name (suc n) = map (cell_name name) (range_with_len 0 (suc n))

abbrev pub names_of_variable : Variable → List (List ℕ)
names_of_variable v = sized_names v.name v.size

abbrev pub names_watched : EventGraph → Watched → List (List ℕ)
names_watched g (WatchedVariable v) = option_map_or names_of_variable (slice_get g.variables v) []
names_watched g (WatchedVertex v) = vertex_name g v ∷ []

-- the names of all items, in the order of the watch list
abbrev pub item_names : EventGraph → List (List ℕ)
item_names g = flat_map (names_watched g) g.watch

-- ---- the fields of a row

abbrev pub end_word : RunEnd → List ℕ
end_word ends.Ended = codes "ended"
end_word ends.Stopped = codes "stopped"
end_word ends.Fault = codes "fault"
end_word ends.Budget = codes "budget"

-- the columns ahead of an item's name in a row, and whether its last value is written
pub record Heading : Type 0 where
  pub run : List ℕ
  pub seed : List ℕ
  pub outcome : List ℕ
  pub time : List ℕ
  pub last : Bool

abbrev pub run_heading : ℕ → ℕ → RunTally → Heading
run_heading number seed run = record { run = decimal number; seed = decimal seed; outcome = end_word run.end; time = decimal run.time; last = true }

abbrev pub total_heading : Heading
total_heading = record { run = codes "total"; seed = []; outcome = []; time = []; last = false }

-- the fields of an item: least, greatest, last, area and count
abbrev pub item_fields : Bool → Item → List (List ℕ)
item_fields last (items.Cell None area) = [] ∷ [] ∷ [] ∷ signed_decimal area ∷ [] ∷ []
item_fields last (items.Cell (Some s) area) = signed_decimal s.least ∷ signed_decimal s.greatest ∷ cond last (signed_decimal s.last) [] ∷ signed_decimal area ∷ [] ∷ []
item_fields last (items.Count n) = [] ∷ [] ∷ [] ∷ [] ∷ decimal n ∷ []

abbrev pub item_row : Heading → List ℕ → Item → List ℕ
item_row h name item = row_of_fields (h.run ∷ h.seed ∷ h.outcome ∷ h.time ∷ name ∷ item_fields h.last item)

-- ---- the rows

-- a row for each item, beside its name
abbrev pub item_rows : Heading → List (List ℕ) → List Item → List ℕ
item_rows h [] items = []
item_rows h (name ∷ names) [] = []
item_rows h (name ∷ names) (item ∷ items) = item_row h name item ++ item_rows h names items

-- the rows of the run of this number, from 1
abbrev pub run_rows : EventGraph → ℕ → ℕ → RunTally → List ℕ
run_rows g number seed run = item_rows (run_heading number seed run) (item_names g) run.items

abbrev pub total_rows : EventGraph → RunTotals → List ℕ
total_rows g totals = item_rows total_heading (item_names g) totals.items
