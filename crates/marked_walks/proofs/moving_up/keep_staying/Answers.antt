-- One item more, which stays or goes; at the end those that stay are left.
use Rattle.std.proofs.Common.{◌∙◌, ap, sym}
use Rattle.std.proofs.lemmas.List.{map-id}
use Rattle.model_core.specs.Rules.MarkedPlaces.{marked_of}
use Rattle.mark_laws.proofs.LeftInPlace.{one_kept, all_left}
use Rattle.mark_laws.proofs.MarkedItems.{marked-at, marked-none}
use Rattle.marked_walks.proofs.moving_up.keep_staying.Goals as goal

pub loop-place-preserved : goal.loop-place-preserved
loop-place-preserved g c =
    one_kept c.loop-place.invariant c.keeps.result c.loop-place-test.true c.len-place-end.ensures c.args.items.now.ok.0
    (λ x. marked-at c.args.staying.now c.loop-place.place _ c.keeps.ensures x) c.keep-kept.ensures

pub returns : goal.returns
returns g c =
    c.truncate.ensures.items
    ∙ sym (map-id _)
    ∙ all_left c.loop-place.invariant c.loop-place-test.false c.len-place-end.ensures c.args.items.now.ok.0 (marked-none _)
    ∙ ap (marked_of c.args.staying.now) (map-id c.args.items.now.items)
