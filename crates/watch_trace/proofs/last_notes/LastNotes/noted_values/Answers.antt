use Rattle.std.proofs.Common.{◌∙◌, Some, None, cond, map, sym, ap}
use Rattle.std.specs.Option.{option_map}
use Rattle.model_core.specs.Code.Views.{graph_of, watched_of}
use Rattle.model_core.specs.Saved.Cells.{watched_sizes, cut_up, in_one_list}
use Rattle.watch_trace.specs.Tracing.{Tracing}
use Rattle.run_laws.proofs.CutUp.{in_one_list-cut_up}
use Rattle.watch_trace.proofs.KeptValues.{sizes-together}
use Rattle.watch_trace.proofs.last_notes.LastNotes.noted_values.Goals as goal

pub returns : goal.returns
returns c =
    let g = graph_of c.self.inside.model.now in
    let watch = map watched_of c.self.inside.model.now.watch in
    let xs = c.self.inside.values.items in
    ap Some (c.as_slice.ensures.value ∙ sym (in_one_list-cut_up (watched_sizes g watch) xs (sizes-together g watch ∙ sym c.self.invariant)))
    ∙ ap (λ b. option_map in_one_list (cond b (Some (cut_up (watched_sizes g watch) xs)) None)) (sym c.if-not-self.false)
    ∙ ap (λ (t : Tracing). option_map in_one_list t.noted) c.self.view_is
