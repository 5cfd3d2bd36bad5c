-- The totals of no run.
use Rattle.std.proofs.Common.{◌≡◌, All, map, refl, ap, ◌∙◌, arith}
use Rattle.std.proofs.lemmas.List.Elements.{All-map}
use Rattle.std.proofs.lemmas.Simd.{map-map}
use Rattle.model_core.specs.EventGraph.{EventGraph}
use Rattle.model_core.proofs.SameNames.{map_alike}
use Rattle.tally_report.specs.declared.sums.Sum.{Sum}
use Rattle.tally_report.specs.SmallAreas.{IsOfRuns}
use Rattle.tally_report.specs.Tallying.{ItemOf, CellAt, VertexAt, items_reported}
use Rattle.tally_report.specs.Totalling.{no_item}
use Rattle.tally_report.specs.Inner.Sums.{held_until, sums_from}
use Rattle.tally_report.proofs.FirstSums.{no-area}
use Rattle.tally_report.proofs.ItemsOfSums.{first_sum, first-from}

held-none : (item : ItemOf) → held_until 0 0 (first_sum item).item ≡ no_item item
held-none (CellAt place index) = refl
held-none (VertexAt place) = refl

pub first_totals : (g : EventGraph) → map (λ (s : Sum). held_until 0 0 s.item) (sums_from g 0 g.watch) ≡ map no_item (items_reported g)
first_totals g =
    ap (map (λ (s : Sum). held_until 0 0 s.item)) (first-from g 0 g.watch)
    ∙ map-map (λ (s : Sum). held_until 0 0 s.item) first_sum (items_reported g)
    ∙ map_alike (λ item. held_until 0 0 (first_sum item).item) no_item held-none (items_reported g)

small-none : (item : ItemOf) → IsOfRuns 0 (no_item item)
small-none (CellAt place index) = no-area
small-none (VertexAt place) = omega arith

pub of_no_run : (g : EventGraph) → All (IsOfRuns 0) (map no_item (items_reported g))
of_no_run g = All-map (IsOfRuns 0) no_item (items_reported g) (λ k d within. small-none _)
