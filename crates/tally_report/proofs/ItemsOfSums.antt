-- Running sums, note by note, come to the items of the whole history.
use Rattle.std.proofs.Common.{◌≡◌, ℕ, ℤ, suc, ◌+◌, ◌-◌, ◌^◌, ◌<◌, ◌≤◌, le_trans, max, Bool, true, false, cond, List, [], ◌∷◌, ◌++◌, length, map, Some, None, refl, sym, ap, ap₂, ◌∙◌, arith}
use Rattle.std.specs.Prelude.{pos, ◌+ℤ◌, ◌*ℤ◌, ◌==◌}
use Rattle.std.specs.List.{range_with_len}
use Rattle.std.proofs.lemmas.List.{map-append}
use Rattle.std.proofs.lemmas.Simd.{map-map}
use lib.IntN.{+ℤ_idl, +ℤ_assoc}
use Rattle.model_core.specs.EventGraph.{EventGraph, Watched, WatchedVariable, WatchedVertex}
use Rattle.model_core.specs.Run.Machine.{Note, At, On}
use Rattle.model_core.specs.Saved.Cells.{cells_declared}
use Rattle.model_core.proofs.SameNames.{map_alike}
use Rattle.tally_report.specs.declared.item.Span.{Span}
use Rattle.tally_report.specs.declared.item.Item.{Item}
use Rattle.tally_report.specs.declared.item.Item.TheVariants as items
use Rattle.tally_report.specs.declared.sums.Sum.{Sum}
use Rattle.tally_report.specs.CellCourse.{widened, value_noted, course, span_from, area_from}
use Rattle.tally_report.specs.Tallying.{ItemOf, CellAt, VertexAt, items_at, items_reported_from, items_reported, occurrences, item_of_notes, last_time}
use Rattle.tally_report.specs.Inner.Sums.{held_until, occurred_once, sum_at, sum_on, Tallied, after_note, after_notes, cell_sum, vertex_sum, sums_at, sums_from}
use Rattle.tally_report.proofs.RisingNotes.{RisesTo}

-- ---- each sum goes its own way

-- the time of the latest `at` note
abbrev pub latest_at : List Note → ℕ → ℕ
latest_at [] since = since
latest_at (At time values ∷ notes) since = latest_at notes (max since time)
latest_at (On time place values ∷ notes) since = latest_at notes since

-- a sum after notes
abbrev sum_after_notes : EventGraph → List Note → ℕ → Sum → Sum
sum_after_notes g [] since s = s
sum_after_notes g (At time values ∷ notes) since s = sum_after_notes g notes (max since time) (sum_at g values since (max since time) s)
sum_after_notes g (On time place values ∷ notes) since s = sum_after_notes g notes since (sum_on place s)

sums-after_notes : (g : EventGraph) (notes : List Note) (t : Tallied) → (after_notes g notes t).sums ≡ map (sum_after_notes g notes t.since) t.sums
sums-after_notes g [] t = sym (map-same t.sums)
  where
    map-same : (xs : List Sum) → map (λ s. s) xs ≡ xs
    map-same [] = refl
    map-same (x ∷ xs) = ap (λ ys. x ∷ ys) (map-same xs)
sums-after_notes g (At time values ∷ notes) t =
    sums-after_notes g notes (after_note g (At time values) t) ∙ map-map (sum_after_notes g notes (max t.since time)) (sum_at g values t.since (max t.since time)) t.sums
sums-after_notes g (On time place values ∷ notes) t =
    sums-after_notes g notes (after_note g (On time place values) t) ∙ map-map (sum_after_notes g notes t.since) (sum_on place) t.sums

pub since-after_notes : (g : EventGraph) (notes : List Note) (t : Tallied) → (after_notes g notes t).since ≡ latest_at notes t.since
since-after_notes g [] t = refl
since-after_notes g (At time values ∷ notes) t = since-after_notes g notes (after_note g (At time values) t)
since-after_notes g (On time place values ∷ notes) t = since-after_notes g notes (after_note g (On time place values) t)

pub latest-after_notes : (g : EventGraph) (notes : List Note) (t : Tallied) → (after_notes g notes t).latest ≡ last_time t.latest notes
latest-after_notes g [] t = refl
latest-after_notes g (At time values ∷ notes) t = latest-after_notes g notes (after_note g (At time values) t)
latest-after_notes g (On time place values ∷ notes) t = latest-after_notes g notes (after_note g (On time place values) t)

-- the latest `at` note comes no later than all notes
pub latest_at-by : (notes : List Note) (since from to : ℕ) → since ≤ from → RisesTo from notes to → latest_at notes since ≤ to
latest_at-by [] since from to le rises = le_trans le rises
latest_at-by (At time values ∷ notes) since from to le (first, later) = latest_at-by notes (max since time) time to (omega (arith, le, first)) later
latest_at-by (On time place values ∷ notes) since from to le (first, later) = latest_at-by notes since time to (le_trans le first) later

-- ---- a cell

-- a sum at the end
abbrev come_to : EventGraph → List Note → ℕ → ℕ → Sum → Item
come_to g notes since end s = held_until (latest_at notes since) (max (latest_at notes since) end) (sum_after_notes g notes since s).item

counted-or-not : (place index : ℕ) (span : _) (area : ℤ) (b : Bool)
    → (let s : Sum = record { place = place; index = index; item = items.Cell span area } in cond b (record s { item = occurred_once s.item }) s ≡ s)
counted-or-not place index span area true = refl
counted-or-not place index span area false = refl

module _ (g : EventGraph) (place index end : ℕ) where
  abbrev cell : Span → ℤ → Sum
  cell span area = record { place = place; index = index; item = items.Cell (Some span) area }

  abbrev empty : Sum
  empty = cell_sum place index

  cell-comes : (notes : List Note) (since from to : ℕ) (span : Span) (area : ℤ) → since ≤ from → RisesTo from notes to
      → come_to g notes since end (cell span area) ≡ items.Cell (Some (span_from span (course g place index notes))) (area +ℤ area_from (record { since = since; value = span.last }) (course g place index notes) end)
  cell-comes [] since from to span area le rises =
      let held : max since end - since ≡ end - since = omega arith in
      ap (λ n. items.Cell (Some span) (area +ℤ span.last *ℤ pos n)) held
  cell-comes (At time values ∷ notes) since from to span area le (first, later) =
      let now : max since time ≡ time = omega (arith, le, first) in
      let value = value_noted g place index values in
      let step = cell-comes notes time time to (widened span value) (area +ℤ span.last *ℤ pos (time - since)) (omega arith) later in
      ap (λ t. come_to g notes t end (cell (widened span value) (area +ℤ span.last *ℤ pos (t - since)))) now
      ∙ step
      ∙ ap (λ a. items.Cell (Some (span_from (widened span value) (course g place index notes))) a)
      (+ℤ_assoc area (span.last *ℤ pos (time - since)) (area_from (record { since = time; value = value }) (course g place index notes) end))
  cell-comes (On time at values ∷ notes) since from to span area le (first, later) =
      ap (come_to g notes since end) (counted-or-not place index (Some span) area (place == at)) ∙ cell-comes notes since time to span area (le_trans le first) later

  pub empty-comes : (notes : List Note) (since from to : ℕ) → since ≤ from → RisesTo from notes to → come_to g notes since end empty ≡ item_of_notes g notes end (CellAt place index)
  empty-comes [] since from to le rises = refl
  empty-comes (At time values ∷ notes) since from to le (first, later) =
      let now : max since time ≡ time = omega (arith, le, first) in
      let value = value_noted g place index values in
      let span : Span = record { least = value; greatest = value; last = value } in
      ap (λ t. come_to g notes t end (cell span (pos 0))) now
      ∙ cell-comes notes time time to span (pos 0) (omega arith) later
      ∙ ap (λ a. items.Cell (Some (span_from span (course g place index notes))) a) (+ℤ_idl (area_from (record { since = time; value = value }) (course g place index notes) end))
  empty-comes (On time at values ∷ notes) since from to le (first, later) =
      ap (come_to g notes since end) (counted-or-not place index None (pos 0) (place == at)) ∙ empty-comes notes since time to (le_trans le first) later

-- ---- a vertex

module _ (g : EventGraph) (place end : ℕ) where
  abbrev count : ℕ → Sum
  count n = record { place = place; index = 0; item = items.Count n }

  one-counted : (n : ℕ) (b : Bool) → n + 1 < 2 ^ 64 → cond b (record (count n) { item = occurred_once (count n).item }) (count n) ≡ count (n + cond b 1 0)
  one-counted n true few = ap count (omega (arith, few))
  one-counted n false few = ap count (omega arith)

  pub count-comes : (notes : List Note) (since n : ℕ) → n + length notes < 2 ^ 64 → come_to g notes since end (count n) ≡ items.Count (n + occurrences place notes)
  count-comes [] since n few = ap items.Count (omega arith)
  count-comes (At time values ∷ notes) since n few = count-comes notes (max since time) n (omega (arith, few))
  count-comes (On time at values ∷ notes) since n few =
      ap (come_to g notes since end) (one-counted n (place == at) (omega (arith, few)))
      ∙ count-comes notes since (n + cond (place == at) 1 0) (below (place == at))
      ∙ ap items.Count (omega arith)
    where
      below : (b : Bool) → n + cond b 1 0 + length notes < 2 ^ 64
      below true = omega (arith, few)
      below false = omega (arith, few)

-- ---- all items

-- the sum of an item as a run begins
abbrev pub first_sum : ItemOf → Sum
first_sum (CellAt place index) = cell_sum place index
first_sum (VertexAt place) = vertex_sum place

first-at : (g : EventGraph) (place : ℕ) (w : Watched) → sums_at g place w ≡ map first_sum (items_at g place w)
first-at g place (WatchedVariable v) = sym (map-map first_sum (CellAt place) (range_with_len 0 (cells_declared g v)))
first-at g place (WatchedVertex v) = refl

pub first-from : (g : EventGraph) (place : ℕ) (ws : List Watched) → sums_from g place ws ≡ map first_sum (items_reported_from g place ws)
first-from g place [] = refl
first-from g place (w ∷ ws) = ap₂ (λ a b. a ++ b) (first-at g place w) (first-from g (suc place) ws) ∙ sym (map-append first_sum (items_at g place w) (items_reported_from g (suc place) ws))

-- as a run begins
abbrev pub first_tallied : EventGraph → Tallied
first_tallied g = record { sums = sums_from g 0 g.watch; since = 0; latest = 0 }

module _ (g : EventGraph) (notes : List Note) (to end : ℕ) (rises : RisesTo 0 notes to) (few : length notes < 2 ^ 64) where
  item-comes : (item : ItemOf) → come_to g notes 0 end (first_sum item) ≡ item_of_notes g notes end item
  item-comes (CellAt place index) = empty-comes g place index end notes 0 0 to (omega arith) rises
  item-comes (VertexAt place) = count-comes g place end notes 0 0 (omega (arith, few)) ∙ ap items.Count (omega arith)

  pub items-come : (t : Tallied) → t ≡ after_notes g notes (first_tallied g)
      → map (λ (s : Sum). held_until t.since (max t.since end) s.item) t.sums ≡ map (item_of_notes g notes end) (items_reported g)
  items-come t is =
      let sums : t.sums ≡ map (sum_after_notes g notes 0) (map first_sum (items_reported g)) =
      ap (λ (t : Tallied). t.sums) is ∙ sums-after_notes g notes (first_tallied g) ∙ ap (map (sum_after_notes g notes 0)) (first-from g 0 g.watch) in
      let since : t.since ≡ latest_at notes 0 = ap (λ (t : Tallied). t.since) is ∙ since-after_notes g notes (first_tallied g) in
      ap₂ (λ (n : ℕ) (xs : List Sum). map (λ (s : Sum). held_until n (max n end) s.item) xs) since sums
      ∙ map-map (λ (s : Sum). held_until (latest_at notes 0) (max (latest_at notes 0) end) s.item) (sum_after_notes g notes 0) (map first_sum (items_reported g))
      ∙ map-map (come_to g notes 0 end) first_sum (items_reported g)
      ∙ map_alike (λ item. come_to g notes 0 end (first_sum item)) (item_of_notes g notes end) item-comes (items_reported g)
