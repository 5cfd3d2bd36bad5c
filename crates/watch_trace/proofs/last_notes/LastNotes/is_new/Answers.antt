use Rattle.std.proofs.Common.{◌≡◌, ◌∙◌, Some, None, cond, not, map, sym, ap, ap₂, subst, IsTrue}
use Rattle.std.specs.List.{flat_map}
use lib.Pointwise.{pointwise}
use Rattle.model_core.specs.declared.model.Model.{Model}
use Rattle.model_core.specs.Run.State.{in_range}
use Rattle.model_core.specs.Run.Pending.{same_values}
use Rattle.model_core.specs.Run.History.{watched_values}
use Rattle.model_core.specs.Code.Views.{graph_of, watched_of}
use Rattle.model_core.specs.Saved.Cells.{watched_sizes, cut_up}
use Rattle.sig_expr.specs.WatchedValues.{values_watched}
use Rattle.watch_trace.specs.Tracing.{Tracing}
use Rattle.watch_trace.proofs.KeptValues.{watched-fit, values_same}
use Rattle.watch_trace.proofs.last_notes.LastNotes.is_new.Goals as goal

pub are_same-requires : goal.are_same-requires
are_same-requires c =
    let s = c.args.state.now in
    let m = c.self.inside.model.now in
    let inside : IsTrue (in_range (graph_of m) s) = subst (λ (x : Model). IsTrue (in_range (graph_of x) s)) (ap (λ (t : Tracing). t.model) (sym c.self.view_is)) c.requires in
    rw (c.as_slice.ensures, c.as_slice-else-not-self.ensures.value) (watched-fit (graph_of m) s (map watched_of m.watch) inside ∙ sym c.self.invariant)

pub returns-else-not-self : goal.returns-else-not-self
returns-else-not-self c =
    let s = c.args.state.now in
    let m = c.self.inside.model.now in
    let g = graph_of m in
    let watch = map watched_of m.watch in
    let xs = c.self.inside.values.items in
    let model : m ≡ c.args.self.now.model = ap (λ (t : Tracing). t.model) c.self.view_is in
    let inside : IsTrue (in_range g s) = subst (λ (x : Model). IsTrue (in_range (graph_of x) s)) (sym model) c.requires in
    let last = cut_up (watched_sizes g watch) xs in
    let noted : c.args.self.now.noted ≡ Some last =
    ap (λ (t : Tracing). t.noted) (sym c.self.view_is) ∙ ap (λ b. cond b (Some last) None) c.if-not-self.false in
    let compared : c.are_same.result ≡ same_values xs (flat_map (values_watched s) watch) =
    c.are_same.ensures ∙ ap₂ (λ values things. same_values values (flat_map (values_watched s) (map watched_of things))) c.as_slice-else-not-self.ensures.value c.as_slice.ensures in
    rw noted (ap not (compared ∙ values_same g s watch xs inside c.self.invariant
    ∙ ap (λ (x : Model). pointwise same_values last (watched_values (map watched_of x.watch) s)) model))
