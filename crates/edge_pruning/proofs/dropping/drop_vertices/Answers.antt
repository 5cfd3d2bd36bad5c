-- The list is that of the vertices that can't be reached, so those that stay are the marked ones.
use Rattle.std.proofs.Common.{◌≡◌, ◌∙◌, ℕ, List, true, sym, ap, ap₂}
use Rattle.model_core.specs.Code.Views.{graph_of}
use Rattle.model_core.specs.Rules.MarkedPlaces.{unmarked_places}
use Rattle.model_core.specs.Rules.Reached.{unreached}
use Rattle.model_core.specs.Rules.Drop.{lists_exactly, only_marked, dropped}
use Rattle.mark_laws.proofs.StayingMarks.{exactly-equal, some_given, none_unequal, both_conditions}
use Rattle.edge_pruning.proofs.DropResult.{without_unreached}
use Rattle.edge_pruning.proofs.dropping.drop_vertices.Goals as goal

pub returns-clause-done : goal.returns-clause-done
returns-clause-done c =
    let g = graph_of c.args.model.now in
    let vertices = c.args.vertices.now in
    let others : c.in_ok-others.others ≡ unreached g = c.in_ok-others.ensures ∙ ap unmarked_places (c.as_slice.ensures.value ∙ c.in_ok-marks.ensures) in
    let exactly : lists_exactly vertices (unreached g) ≡ true =
    ap₂ (λ (a b : List ℕ). lists_exactly a b) (sym c.as_slice-2.ensures) (sym (c.as_slice-3.ensures ∙ others)) ∙ none_unequal _ c.if-ne.ensures in
    let some = some_given vertices (λ none. c.if-len-eq0.false (c.len.ensures ∙ none)) in (
      both_conditions vertices (unreached g) some exactly,
      c.in_ok-keep_marked_vertices.ensures.done ∙ ap (only_marked g) c.in_ok-marks.ensures ∙ sym (without_unreached g) ∙ ap (dropped g) (sym (exactly-equal vertices (unreached g) exactly)),
    )
