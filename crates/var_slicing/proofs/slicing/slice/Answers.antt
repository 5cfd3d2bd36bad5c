-- The list is that of the variables that aren't needed, so those that stay are the marked ones.
use Rattle.std.proofs.Common.{◌≡◌, ◌∙◌, ℕ, List, true, length, sym, ap, ap₂}
use Rattle.model_core.specs.EventGraph.{EventGraph}
use Rattle.model_core.specs.Code.Views.{graph_of}
use Rattle.model_core.specs.Rules.MarkedPlaces.{unmarked_places}
use Rattle.model_core.specs.Rules.Needed.{needed_at_once, needed_beside, needed_marks, unneeded}
use Rattle.model_core.specs.Rules.Drop.{lists_exactly, staying_marks}
use Rattle.model_core.specs.Rules.Slice.{of_marked_variables, sliced}
use Rattle.mark_laws.proofs.EntailedMarks.{entailed_marks-long}
use Rattle.mark_laws.proofs.StayingMarks.{staying-unmarked, exactly-equal, some_given, none_unequal, both_conditions}
use Rattle.var_slicing.proofs.slicing.slice.Goals as goal

without_unneeded : (g : EventGraph) → sliced g (unneeded g) ≡ of_marked_variables g (needed_marks g)
without_unneeded g =
    ap (of_marked_variables g) (ap (staying_marks (unneeded g)) (sym (entailed_marks-long (length g.variables) (needed_at_once g) (needed_beside g))) ∙ staying-unmarked (needed_marks g))

pub returns-clause-done : goal.returns-clause-done
returns-clause-done c =
    let g = graph_of c.args.model.now in
    let vars = c.args.vars.now in
    let others : c.in_ok-others.others ≡ unneeded g = c.in_ok-others.ensures ∙ ap unmarked_places (c.as_slice.ensures.value ∙ c.in_ok-marks.ensures) in
    let exactly : lists_exactly vars (unneeded g) ≡ true =
    ap₂ (λ (a b : List ℕ). lists_exactly a b) (sym c.as_slice-2.ensures) (sym (c.as_slice-3.ensures ∙ others)) ∙ none_unequal _ c.if-ne.ensures in
    let some = some_given vars (λ none. c.if-len-eq0.false (c.len.ensures ∙ none)) in (
      both_conditions vars (unneeded g) some exactly,
      c.keep_and_renumber.ensures ∙ ap (of_marked_variables g) (c.in_ok-staying.ensures ∙ c.in_ok-marks.ensures) ∙ sym (without_unneeded g) ∙ ap (sliced g) (sym (exactly-equal vars (unneeded g) exactly)),
    )
