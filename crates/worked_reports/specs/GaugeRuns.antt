-- Histories of the gauge, courses of one cell, and tallies.
use Rattle.std.specs.Prelude.{ℕ, ℤ, pos, negsuc, List, [], ◌∷◌, Some, None}
use Rattle.model_core.specs.Run.Machine.{Note, At, On, RunStatus, Look}
use Rattle.tally_report.specs.declared.item.Span.{Span}
use Rattle.tally_report.specs.declared.item.Item.{Item}
use Rattle.tally_report.specs.declared.item.Item.TheVariants as items
use Rattle.tally_report.specs.declared.run_tally.RunEnd.{RunEnd}
use Rattle.tally_report.specs.declared.run_tally.RunTally.{RunTally}
use Rattle.tally_report.specs.CellCourse.{ValueSince}
use Rattle.tally_report.specs.Totalling.{RunTotals}
use Rattle.worked_reports.specs.Gauge.{gauged}

-- a value that holds from this time on
abbrev pub from : ℕ → ℤ → ValueSince
from since value = record { since = since; value = value }

abbrev pub spanning : ℤ → ℤ → ℤ → Span
spanning least greatest last = record { least = least; greatest = greatest; last = last }

-- a cell with these values, or with none
abbrev pub cell : ℤ → ℤ → ℤ → ℤ → Item
cell least greatest last area = items.Cell (Some (spanning least greatest last)) area

abbrev pub no_value : ℤ → Item
no_value area = items.Cell None area

-- TOCK occurs at 2, at 4 and at 4, and TICK at 7. The values change at 3, at 4 and at 6
abbrev pub gauge_notes : List Note
gauge_notes =
    On 2 0 (gauged (pos 9) (pos 9) (pos 9) (pos 9))
    ∷ At 3 (gauged (pos 5) (pos 1) (pos 2) (pos 7))
    ∷ On 4 0 (gauged (pos 9) (pos 9) (pos 9) (pos 9))
    ∷ On 4 0 (gauged (pos 9) (pos 9) (pos 9) (pos 9))
    ∷ At 4 (gauged (pos 5) (negsuc 0) (pos 6) (pos 7))
    ∷ At 6 (gauged (pos 0) (negsuc 0) (pos 4) (pos 8))
    ∷ On 7 3 (gauged (pos 9) (pos 9) (pos 9) (pos 9)) ∷ []

abbrev pub gauge_seen : RunStatus → Look
gauge_seen standing = record { history = gauge_notes; standing = standing }

-- the tally of the gauge: of TOCK, of A, of N, of TICK and of B
abbrev pub tally_with : RunEnd → ℕ → List Item → RunTally
tally_with end time items = record { end = end; time = time; items = items }

-- so many runs, and their items together
abbrev pub totalled : ℕ → List Item → RunTotals
totalled runs items = record { runs = runs; items = items }
