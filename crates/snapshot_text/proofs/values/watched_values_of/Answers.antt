-- The watched thing that is next is good and passed, or it isn't good.
use Rattle.std.proofs.Common.{◌≡◌, ◌<◌, ◌+◌, ◌∷◌, [], ℕ, List, length, map, drop, get_or, sym, ap, ◌∙◌}
use Rattle.std.proofs.lemmas.List.{drop_more}
use Rattle.model_core.specs.declared.model.Watch.{Watch}
use Rattle.model_core.specs.declared.model.Watch.TheVariants as watch
use Rattle.model_core.specs.EventGraph.{Watched}
use Rattle.model_core.specs.Code.Views.{graph_of, watched_of}
use Rattle.model_core.specs.Code.WrittenViews.{written_signed}
use Rattle.model_core.specs.Saved.Cells.{cell_variables, variables_watched}
use Rattle.model_core.specs.Saved.GoodSnapshots.{fit_variables, signed_values}
use Rattle.snapshot_text.specs.Inner.Judging.{if_good}
use Rattle.snapshot_text.proofs.FittingValues.{one_watched_more, watched_bad}
use Rattle.snapshot_text.proofs.values.watched_values_of.Goals as goal

abbrev blank : Watch
blank = watch.Variable 0

first_watched : (i : ℕ) (items shown : List Watch) → items ≡ shown → i < length items → watched_of (get_or items i blank) ∷ map watched_of (drop (i + 1) shown) ≡ map watched_of (drop i shown)
first_watched i items shown same inside =
    ap (λ (l : List Watch). watched_of (get_or items i blank) ∷ map watched_of (drop (i + 1) l)) (sym same) ∙ sym (ap (map watched_of) (drop_more items i blank inside)) ∙ ap (λ (l : List Watch). map watched_of (drop i l)) same

pub returns-in_default : goal.returns-in_default
returns-in_default c =
    let g = graph_of c.args.model.now in
    let values = c.args.values.now in
    let i = c.loop-watch.watch-index in
    let items = c.as_slice-watch-items.result.now in
    let shown = c.args.model.now.watch in
    let here = map written_signed (drop c.loop-watch.from values) in
    let first = first_watched i items shown c.as_slice-watch-items.ensures c.loop-watch-test.true in
    let fit = ap (λ (l : List Watched). fit_variables (cell_variables (variables_watched g l)) here) first ∙ c.loop-watch.invariant.0 in
    let bad = watched_bad g values c.loop-watch.from 0 [] [] (map watched_of (drop (i + 1) shown)) _ [] (watched_of (get_or items i blank)) (sym c.in_default.is ∙ c.in_ok-next.ensures.next) fit in
    ap (λ b. if_good b (signed_values (map written_signed values))) (sym bad)

pub loop-watch-preserved : goal.loop-watch-preserved
loop-watch-preserved c =
    let g = graph_of c.args.model.now in
    let values = c.args.values.now in
    let i = c.loop-watch.watch-index in
    let items = c.as_slice-watch-items.result.now in
    let shown = c.args.model.now.watch in
    let here = map written_signed (drop c.loop-watch.from values) in
    let first = first_watched i items shown c.as_slice-watch-items.ensures c.loop-watch-test.true in
    let fit = ap (λ (l : List Watched). fit_variables (cell_variables (variables_watched g l)) here) first ∙ c.loop-watch.invariant.0 in
    let more = one_watched_more g values c.loop-watch.from c.in-Some.next c.loop-watch.all.items c.add_watched.new.out.items (map watched_of (drop (i + 1) shown)) _ _ (watched_of (get_or items i blank))
    (sym c.in-Some.is ∙ c.in_ok-next.ensures.next) (rw c.in-Some.is at c.in_ok-next.ensures.added) fit c.loop-watch.invariant.1 in
    (more.0, more.1, rw c.in-Some.is at c.in_ok-next.ensures.within)
