use Rattle.std.proofs.Common.{◌++◌, ap, sym, ◌∙◌, subst, ◌<◌, List, length, map, take, get_or}
use Rattle.std.proofs.lemmas.List.{get_or_default}
use Rattle.model_core.specs.declared.model.Watch.{Watch}
use Rattle.model_core.specs.declared.model.Watch.TheVariants as things
use Rattle.tally_report.specs.declared.sums.Sum.{Sum}
use Rattle.model_core.specs.Code.Views.{graph_of, watched_of}
use Rattle.tally_report.specs.Inner.Sums.{sums_at, sums_from}
use Rattle.tally_report.proofs.FirstSums.{sums_more}
use Rattle.tally_report.proofs.sums.first_sums.Goals as goal

pub loop-place-preserved : goal.loop-place-preserved
loop-place-preserved c =
    let g = graph_of c.args.model.now in
    let ws = c.args.model.now.watch in
    let i = c.loop-place.place in
    let first = things.Variable 0 in
    let within : i < length ws = subst (λ (xs : List Watch). i < length xs) c.as_slice-watch-items.ensures c.loop-place-test.true in
    c.in_ok-add_sums.ensures.added ∙ ap (λ (xs : List Sum). xs ++ sums_at g i (watched_of (get_or c.as_slice-watch-items.result.now i first))) c.loop-place.invariant
    ∙ ap (λ (xs : List Watch). sums_from g 0 (map watched_of (take i ws)) ++ sums_at g i (watched_of (get_or xs i first))) c.as_slice-watch-items.ensures
    ∙ sym (sums_more g watched_of ws i (get_or ws i first) within (get_or_default ws i first (get_or ws i first) within))
