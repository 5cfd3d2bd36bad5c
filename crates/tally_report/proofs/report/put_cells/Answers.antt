use Rattle.std.proofs.Common.{◌≡◌, ℕ, ◌+◌, List, [], ◌∷◌, ◌++◌, length, map, drop, sym, ap, ◌∙◌, arith}
use Rattle.std.specs.List.{range_with_len}
use Rattle.std.proofs.lemmas.List.FromFn.{length-map-range_with_len, map-range_with_len_more}
use Rattle.tally_report.specs.ReportText.{cell_name, item_rows}
use Rattle.tally_report.specs.Inner.Headings.{heading_of}
use Rattle.tally_report.proofs.ReportRows.{rows_more, items_left_more}
use Rattle.tally_report.proofs.report.put_cells.Goals as goal

pub loop-index-preserved : goal.loop-index-preserved
loop-index-preserved c =
    let i = c.loop-index.index in
    let h = heading_of c.args.head.now in
    let name = c.args.name.now in
    let items = c.args.items.now in
    let some : ℕ → List (List ℕ) = λ n. map (cell_name name) (range_with_len 0 n) in
    let one : List (List ℕ) = cell_name name i ∷ [] in
    let whole : some (i + 1) ≡ some i ++ one = map-range_with_len_more (cell_name name) 0 i i (omega arith) in
    let here : c.loop-index.left.now ≡ drop (length (some i)) items = c.loop-index.invariant.1 ∙ ap (λ (n : ℕ). drop n items) (sym (length-map-range_with_len (cell_name name) 0 i)) in
    let label : c.as_slice.result.now ≡ cell_name name i = c.as_slice.ensures.value ∙ c.in_ok-label.ensures in
    let put = c.in_ok-left.ensures.rows ∙ ap (λ (n : List ℕ). c.loop-index.out ++ item_rows h (n ∷ []) c.loop-index.left.now) label in (
      rows_more (some i) one (some (i + 1)) items c.loop-index.left.now whole here h c.args.out.now c.loop-index.out c.put_next.new.out c.loop-index.invariant.0 put,
      items_left_more (some i) one (some (i + 1)) items c.loop-index.left.now whole here c.in_ok-left.left.now c.in_ok-left.ensures.left
          ∙ ap (λ (n : ℕ). drop n items) (length-map-range_with_len (cell_name name) 0 (i + 1)),
    )
