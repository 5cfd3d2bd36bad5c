-- The totals of runs: items that are added up, run by run.
use Rattle.std.specs.Prelude.{ℕ, suc, ◌+◌, pos, ◌+ℤ◌, List, [], ◌∷◌, map, Option, Some, None}
use Rattle.std.specs.Int.{int_min, int_max}
use Rattle.model_core.specs.EventGraph.{EventGraph}
use Rattle.tally_report.specs.declared.item.Span.{Span}
use Rattle.tally_report.specs.declared.item.Item.{Item}
use Rattle.tally_report.specs.declared.item.Item.TheVariants as items
use Rattle.tally_report.specs.declared.run_tally.RunTally.{RunTally}
use Rattle.tally_report.specs.Tallying.{ItemOf, CellAt, VertexAt, items_reported}

-- how many runs were added, and their items together
pub record RunTotals : Type 0 where
  pub runs : ℕ
  pub items : List Item

-- the values of both, where there are any
abbrev pub spans_joined : Option Span → Option Span → Option Span
spans_joined None t = t
spans_joined (Some s) None = Some s
spans_joined (Some s) (Some t) = Some (record { least = int_min s.least t.least; greatest = int_max s.greatest t.greatest; last = t.last })

-- an item with the same one of a further run
abbrev pub item_added : Item → Item → Item
item_added (items.Cell s a) (items.Cell t b) = items.Cell (spans_joined s t) (a +ℤ b)
item_added (items.Count m) (items.Count n) = items.Count (m + n)
item_added item other = item

abbrev pub items_added : List Item → List Item → List Item
items_added [] others = []
items_added (x ∷ xs) [] = x ∷ xs
items_added (x ∷ xs) (y ∷ others) = item_added x y ∷ items_added xs others

-- an item of no run
abbrev pub no_item : ItemOf → Item
no_item (CellAt place index) = items.Cell None (pos 0)
no_item (VertexAt place) = items.Count 0

abbrev pub no_totals : EventGraph → RunTotals
no_totals g = record { runs = 0; items = map no_item (items_reported g) }

abbrev pub with_run : RunTotals → RunTally → RunTotals
with_run t run = record { runs = suc t.runs; items = items_added t.items run.items }

-- the totals of runs of a model, one after the other
abbrev pub totals_from : RunTotals → List RunTally → RunTotals
totals_from t [] = t
totals_from t (run ∷ runs) = totals_from (with_run t run) runs

abbrev pub totals_of : EventGraph → List RunTally → RunTotals
totals_of g runs = totals_from (no_totals g) runs
