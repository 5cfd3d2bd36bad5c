-- One place more, where it isn't marked.
use Rattle.std.proofs.Common.{◌∙◌, sym, ap, not, true, false, append-nil}
use Rattle.mark_laws.proofs.UnmarkedPlaces.{unmarked_more}
use Rattle.marked_walks.proofs.marks.unmarked.Goals as goal
use Rattle.marked_walks.proofs.marks.unmarked.Goals.{then-not-is_marked+in_ok-push, else-not-is_marked}

pub loop-place-preserved : goal.loop-place-preserved
loop-place-preserved c =
    elim c.if-not-is_marked.branch [
      | then-not-is_marked+in_ok-push w ↦ unmarked_more c.args.marks.now c.loop-place.place true c.loop-place.places.items c.if-not-is_marked.places.items (ap not (sym c.is_marked.ensures ∙ w.if-not-is_marked.true)) (ap (λ v. v.items) w.places-is ∙ w.in_ok-push.ensures.items) c.loop-place.invariant
      | else-not-is_marked w ↦ unmarked_more c.args.marks.now c.loop-place.place false c.loop-place.places.items c.if-not-is_marked.places.items (ap not (sym c.is_marked.ensures ∙ w.if-not-is_marked.false)) (ap (λ v. v.items) w.places-is ∙ sym (append-nil c.loop-place.places.items)) c.loop-place.invariant
    ]
