use Rattle.std.proofs.Common.{◌≡◌, ℕ, ◌+◌, ◌<◌, List, ◌++◌, length, map, take, drop, get_or, ap, ◌∙◌, subst}
use Rattle.std.specs.List.{flat_map}
use Rattle.std.proofs.lemmas.List.{get_or_default}
use Rattle.model_core.specs.declared.model.Watch.{Watch}
use Rattle.model_core.specs.declared.model.Watch.TheVariants as things
use Rattle.model_core.specs.Code.Views.{graph_of, watched_of}
use Rattle.tally_report.specs.ReportText.{names_watched, item_rows}
use Rattle.tally_report.specs.Inner.Headings.{heading_of}
use Rattle.tally_report.proofs.ReportRows.{rows_more, items_left_more, names_more}
use Rattle.tally_report.proofs.report.put_items.Goals as goal

pub loop-watch-preserved : goal.loop-watch-preserved
loop-watch-preserved c =
    let i = c.loop-watch.watch-index in
    let g = graph_of c.args.model.now in
    let ws = c.args.model.now.watch in
    let items = c.args.items.now in
    let h = heading_of c.args.head.now in
    let first = things.Variable 0 in
    let within : i < length ws = subst (λ (xs : List Watch). i < length xs) c.as_slice-watch-items.ensures c.loop-watch-test.true in
    let w = get_or ws i first in
    let some : ℕ → List (List ℕ) = λ n. flat_map (names_watched g) (map watched_of (take n ws)) in
    let whole : some (i + 1) ≡ some i ++ names_watched g (watched_of w) = names_more g watched_of ws i w within (get_or_default ws i first w within) in
    let put = c.in_ok-left.ensures.rows ∙ ap (λ (xs : List Watch). c.loop-watch.out ++ item_rows h (names_watched g (watched_of (get_or xs i first))) c.loop-watch.left.now) c.as_slice-watch-items.ensures in
    let rest = c.in_ok-left.ensures.left ∙ ap (λ (xs : List Watch). drop (length (names_watched g (watched_of (get_or xs i first)))) c.loop-watch.left.now) c.as_slice-watch-items.ensures in (
      rows_more (some i) (names_watched g (watched_of w)) (some (i + 1)) items c.loop-watch.left.now whole c.loop-watch.invariant.1 h c.args.out.now c.loop-watch.out c.put_watched.new.out c.loop-watch.invariant.0 put,
      items_left_more (some i) (names_watched g (watched_of w)) (some (i + 1)) items c.loop-watch.left.now whole c.loop-watch.invariant.1 c.in_ok-left.left.now rest,
    )
