-- The list at the place is changed, or there is none.
use Rattle.std.proofs.Common.{refl, arith, List, ℕ, ◌∙◌, sym, ap, set}
use Rattle.std.proofs.lemmas.List.{map-id}
use Rattle.std.proofs.lemmas.Result.{on_ok_weaker}
use Rattle.model_core.specs.Rules.PlacedEdges.{with_place}
use Rattle.model_core.proofs.PlacesChanged.{map-set-with_place, with_place-beyond}
use Rattle.var_slicing.specs.Inner.Linking.{with_successor}
use Rattle.var_slicing.proofs.linking.link.Goals as goal

pub returns-in-Some : goal.returns-in-Some
returns-in-Some c =
    let f = with_successor c.args.successor in
    let next = c.args.next.now.items in
    on_ok_weaker c.push.result
    (λ same. sym (map-id (set next c.args.place c.push.new.self))
    ∙ map-set-with_place (λ (ks : List ℕ). ks) f next c.args.place c.in-Some.places.now _ (omega (arith, c.args.next.now.ok.0, c.in-Some.ensures.variant.0 refl)) c.in-Some.ensures.value same
    ∙ ap (with_place f c.args.place) (map-id next))
    c.push.ensures.ok

pub returns-in-None : goal.returns-in-None
returns-in-None c =
    let f = with_successor c.args.successor in
    let next = c.args.next.now.items in
    sym (map-id next)
    ∙ with_place-beyond (λ (ks : List ℕ). ks) f next c.args.place (λ below. c.in-None.ensures.variant.1 (omega (arith, c.args.next.now.ok.0, below)))
    ∙ ap (with_place f c.args.place) (map-id next)
