-- Each part's start is looked for from that of the part before it.
use Rattle.std.proofs.Common.{ℕ, ◌+◌, sym, ap, subst, ◌∙◌}
use Rattle.std.proofs.lemmas.List.{length_push}
use Rattle.sig_base.specs.Stream.{share}
use Rattle.sig_base.specs.RunningSums.{AtMostBefore}
use Rattle.sig_base.proofs.SumsSearched.{one_more_start, start_rises, first_word}
use Rattle.sig_base.proofs.table.starts_of.Goals as goal

pub place_from-place-requires : goal.place_from-place-requires
place_from-place-requires c =
    subst (λ (x : ℕ). AtMostBefore c.args.sums.now x c.loop-part.place)
    (sym (c.share_of-x.ensures.value ∙ ap (λ (word : ℕ). share word c.args.total) (first_word c.loop-part.part c.args.shift c.loop-part-test.true)))
    c.loop-part.invariant.next

pub loop-part-preserved : goal.loop-part-preserved
loop-part-preserved c =
    let sums = c.args.sums.now in
    let starts = c.loop-part.starts.items in
    let place = c.place_from-place.result in
    let first = c.share_of-x.ensures.value ∙ ap (λ (word : ℕ). share word c.args.total) (first_word c.loop-part.part c.args.shift c.loop-part-test.true) in
    let found = subst (λ (x : ℕ). AtMostBefore sums x place) first c.place_from-place.ensures.before in
    rw (c.in_ok-push.ensures.items)
    (record {
      long = length_push starts place ∙ ap (λ (n : ℕ). n + 1) c.loop-part.invariant.long;
      started = one_more_start sums starts c.args.total c.args.shift c.loop-part.part place c.loop-part.invariant.long c.loop-part.invariant.started found;
      next = start_rises sums c.args.total c.args.shift c.loop-part.part place found;
    })
