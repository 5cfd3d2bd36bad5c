use Rattle.std.proofs.Common.{◌≡◌, ◌∙◌, ℤ, List, Some, map, not, sym, ap, ap₂, subst, IsTrue}
use Rattle.std.specs.List.{flat_map}
use Rattle.std.proofs.lemmas.List.{with_items_is}
use Rattle.model_core.specs.declared.model.Model.{Model}
use Rattle.model_core.specs.Run.State.{in_range}
use Rattle.model_core.specs.Run.Pending.{same_values}
use Rattle.model_core.specs.Run.History.{watched_values}
use Rattle.model_core.specs.Code.Views.{graph_of, watched_of}
use Rattle.model_core.specs.Saved.Cells.{watched_sizes, cut_up}
use Rattle.sig_expr.specs.WatchedValues.{values_watched}
use Rattle.watch_trace.specs.Tracing.{Tracing, is_new}
use Rattle.watch_trace.proofs.KeptValues.{watched-fit, values_taken, values_same, new_if_kept}
use Rattle.watch_trace.proofs.last_notes.LastNotes.note.Goals as goal

pub take_values-new-requires : goal.take_values-new-requires
take_values-new-requires c =
    let s = c.args.state.now in
    let m = c.self.inside.model.now in
    let inside : IsTrue (in_range (graph_of m) s) = subst (λ (x : Model). IsTrue (in_range (graph_of x) s)) (ap (λ (t : Tracing). t.model) (sym c.self.view_is)) c.requires in
    rw (c.as_slice.ensures, c.as_mut_slice.ensures.value) (watched-fit (graph_of m) s (map watched_of m.watch) inside ∙ sym c.self.invariant)

pub returns-clause-noted : goal.returns-clause-noted
returns-clause-noted c =
    let s = c.args.state.now in
    let m = c.self.inside.model.now in
    let model : m ≡ c.args.self.now.model = ap (λ (t : Tracing). t.model) c.self.view_is in
    let inside : IsTrue (in_range (graph_of m) s) = subst (λ (x : Model). IsTrue (in_range (graph_of x) s)) (sym model) c.requires in
    let taken = rw c.as_slice.ensures at c.take_values-new.ensures.taken in
    ap₂ (λ (x : Model) (values : List (List ℤ)). record { model = x; noted = Some values }) model
    (ap (cut_up (watched_sizes (graph_of m) (map watched_of m.watch))) (with_items_is c.self.inside.values c.take_values-new.new.values (c.take_values-new.auto.values ∙ c.as_mut_slice.ensures.len) ∙ taken)
    ∙ values_taken (graph_of m) s (map watched_of m.watch) inside
    ∙ ap (λ (x : Model). watched_values (map watched_of x.watch) s) model)

pub returns-clause-new : goal.returns-clause-new
returns-clause-new c =
    let s = c.args.state.now in
    let m = c.self.inside.model.now in
    let g = graph_of m in
    let watch = map watched_of m.watch in
    let xs = c.self.inside.values.items in
    let inside : IsTrue (in_range g s) = subst (λ (x : Model). IsTrue (in_range (graph_of x) s)) (ap (λ (t : Tracing). t.model) (sym c.self.view_is)) c.requires in
    let compared : c.take_values-new.result ≡ not (same_values xs (flat_map (values_watched s) watch)) =
    c.take_values-new.ensures.new ∙ ap₂ (λ values things. not (same_values values (flat_map (values_watched s) (map watched_of things)))) c.as_mut_slice.ensures.value c.as_slice.ensures in
    new_if_kept c.self.inside.noted (cut_up (watched_sizes g watch) xs) (watched_values watch s) c.take_values-new.result (compared ∙ ap not (values_same g s watch xs inside c.self.invariant))
    ∙ ap (λ (t : Tracing). is_new (watched_values (map watched_of t.model.watch) s) t.noted) c.self.view_is
