-- Where all is marked, or nothing may fault elsewhere, the marks stay as they are.
use Rattle.std.proofs.Common.{◌≡◌, ◌∙◌, ◌++◌, List, ℕ, Bool, length, map, refl, sym, ap, ap₂, arith, append-nil}
use Rattle.std.proofs.lemmas.Result.{IfOk-weaker}
use Rattle.std.specs.List.{list_any}
use Rattle.model_core.specs.declared.vertex.Vertex.{Vertex}
use Rattle.model_core.specs.Code.Views.{graph_of, vertex_of}
use Rattle.mark_laws.specs.PlacePairs.{pairs_from}
use Rattle.var_slicing.specs.Inner.Faulting.{with_faults, faulting_unless}
use Rattle.var_slicing.specs.Inner.MarkedTwice.{marked_over}
use Rattle.var_slicing.proofs.FaultsAdded.{faults-added}
use Rattle.var_slicing.proofs.MarkedAgain.{marked-already, none-more, none-false}
use Rattle.var_slicing.proofs.marking.marked_with_faults.Goals as goal

pub returns-then-not-contains : goal.returns-then-not-contains
returns-then-not-contains c =
    let next = c.args.next.now.lists.items in
    let first = c.args.first.now.items in
    let found : c.in_ok-marks.marks.items ≡ marked_over next first = c.in_ok-marks.ensures ∙ ap (marked_over next) c.as_slice.ensures.value in
    found
    ∙ marked-already (length next) (pairs_from 0 next) first (faulting_unless (marked_over next first) (graph_of c.args.model.now))
    (none-false _ (marked_over next first) (ap (list_any _) (sym found ∙ sym c.as_slice-2.ensures.value) ∙ sym c.contains.ensures.value ∙ c.if-not-contains.true) refl)

pub returns-then-len-found : goal.returns-then-len-found
returns-then-len-found c =
    let g = graph_of c.args.model.now in
    let next = c.args.next.now.lists.items in
    let first = c.args.first.now.items in
    let faults = faulting_unless (marked_over next first) g in
    let found : c.in_ok-marks.marks.items ≡ marked_over next first = c.in_ok-marks.ensures ∙ ap (marked_over next) c.as_slice.ensures.value in
    let more : c.add_faulting.new.out.items ≡ first ++ faults =
    c.in_ok-add_faulting.ensures ∙ ap₂ (λ (marks : List Bool) (vs : List Vertex). with_faults marks g (map vertex_of vs) first) (c.as_slice-3.ensures.value ∙ found) c.as_slice-4.ensures ∙ faults-added (marked_over next first) g g.vertices first in
    let none = none-more first faults c.add_faulting.new.out.items more (omega (arith, c.if-len-found.true, c.len.ensures, c.len-found.ensures, c.add_faulting.new.out.ok.0, c.args.first.now.ok.0)) in
    found ∙ ap (marked_over next) (sym (append-nil first) ∙ ap (λ (others : List ℕ). first ++ others) (sym none))

pub returns : goal.returns
returns c =
    let g = graph_of c.args.model.now in
    let next = c.args.next.now.lists.items in
    let first = c.args.first.now.items in
    let found : c.in_ok-marks.marks.items ≡ marked_over next first = c.in_ok-marks.ensures ∙ ap (marked_over next) c.as_slice.ensures.value in
    IfOk-weaker c.entailed-2.result _ _
    (λ marks again. again
    ∙ ap (marked_over next)
    (c.as_slice-5.ensures.value ∙ c.in_ok-add_faulting.ensures
    ∙ ap₂ (λ (marks : List Bool) (vs : List Vertex). with_faults marks g (map vertex_of vs) first) (c.as_slice-3.ensures.value ∙ found) c.as_slice-4.ensures ∙ faults-added (marked_over next first) g g.vertices first))
    c.entailed-2.ensures
