use Rattle.std.proofs.Common.{◌≡◌, ◌∙◌, ℤ, List, Some, map, length, sym, ap, ap₂, arith}
use Rattle.std.specs.Prelude.{sum}
use Rattle.std.specs.List.{sum_by}
use Rattle.model_core.specs.declared.model.Model.{Model}
use Rattle.model_core.specs.Code.Views.{graph_of, watched_of}
use Rattle.model_core.specs.Saved.Cells.{watched_sizes, cut_up}
use Rattle.watch_trace.specs.Inner.KeptNotes.{watched_size}
use Rattle.watch_trace.specs.Tracing.{Tracing}
use Rattle.watch_trace.proofs.KeptValues.{sizes-together}
use Rattle.watch_trace.proofs.last_notes.LastNotes.note_values.Goals as goal

pub put_values-requires : goal.put_values-requires
put_values-requires c =
    let m = c.self.inside.model.now in
    let size : length c.args.values.now ≡ sum_by (watched_size (graph_of m)) (map watched_of m.watch) =
    c.requires ∙ ap (λ (t : Tracing). sum (watched_sizes (graph_of t.model) (map watched_of t.model.watch))) (sym c.self.view_is) ∙ sizes-together (graph_of m) (map watched_of m.watch) in
    let before : length c.self.inside.values.items ≡ sum_by (watched_size (graph_of m)) (map watched_of m.watch) = c.self.invariant in
    omega (arith, size, before, c.self.inside.values.ok.0, c.self.inside.values.ok.1)

pub invariant_of-self : goal.invariant_of-self
invariant_of-self c =
    let m = c.self.inside.model.now in
    ap length c.put_values.ensures ∙ c.requires ∙ ap (λ (t : Tracing). sum (watched_sizes (graph_of t.model) (map watched_of t.model.watch))) (sym c.self.view_is) ∙ sizes-together (graph_of m) (map watched_of m.watch)

pub returns : goal.returns
returns c =
    let model : c.self.inside.model.now ≡ c.args.self.now.model = ap (λ (t : Tracing). t.model) c.self.view_is in
    ap₂ (λ (x : Model) (values : List ℤ). record { model = x; noted = Some (cut_up (watched_sizes (graph_of x) (map watched_of x.watch)) values) }) model c.put_values.ensures
