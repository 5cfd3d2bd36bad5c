-- A draw by a table of the model.
use Rattle.std.proofs.Common.{◌≡◌, ℕ, ◌<◌, ℤ, pos, List, length, map, slice_index_or, sym, ap, ap₂, ◌∙◌, arith}
use Rattle.std.proofs.lemmas.List.{get_or-map, length-map}
use Rattle.std.proofs.lemmas.Simd.{map-map}
use Rattle.sig_base.specs.declared.table.Table.{Table}
use Rattle.sig_base.specs.Stream.{weighted_pick}
use Rattle.random_streams.specs.Draws.{weight_pick}
use Rattle.model_core.specs.declared.model.Model.{Model}
use Rattle.model_core.specs.EventGraph.{Weighted, WeightTable, ByTable}
use Rattle.model_core.specs.Run.Changes.{no_table, drawn_value}
use Rattle.model_core.specs.Code.Views.{graph_of, table_of, weighted_of}

abbrev row-pick : List Weighted → ℕ → ℤ
row-pick rows w = slice_index_or (map (λ r. r.value) rows) (weighted_pick (map (λ r. r.weight) rows) w) (pos 0)

pub table_picked : (m : Model) (t : ℕ) (table : Table) (w : ℕ) → t < length (graph_of m).tables → table ≡ slice_index_or m.tables t table → weight_pick table.rows w ≡ drawn_value (graph_of m) (ByTable t) w
table_picked m t table w below is =
    let there : slice_index_or (map table_of m.tables) t no_table ≡ table_of table = get_or-map table_of m.tables t table no_table (omega (arith, below, length-map m.tables table_of)) ∙ ap table_of (sym is) in
    ap₂ (λ values weights. slice_index_or values (weighted_pick weights w) (pos 0)) (sym (map-map (λ r. r.value) weighted_of table.rows)) (sym (map-map (λ r. r.weight) weighted_of table.rows))
    ∙ ap (λ (x : WeightTable). row-pick x.rows w) (sym there)
