-- The target of the edge that is there, or of none.
use Rattle.std.proofs.Common.{◌∙◌, refl, sym, ap, length, map, option_map}
use Rattle.std.proofs.lemmas.Option.{slice_get-map, slice_get_read, slice_get_past}
use Rattle.model_core.specs.EventGraph.{EventEdge}
use Rattle.model_core.specs.Code.Views.{edge_of}
use Rattle.edge_pruning.proofs.walk.target_at.Goals as goal

pub returns-in-Some : goal.returns-in-Some
returns-in-Some c =
    let es = c.args.edges.now in
    let found = c.in-Some.ensures.lookup in
    sym (slice_get-map (λ (e : EventEdge). e.target) (map edge_of es) c.args.place
    ∙ ap (option_map (λ (e : EventEdge). e.target)) (slice_get-map edge_of es c.args.place ∙ ap (option_map edge_of) (slice_get_read es (length es) c.args.place c.in-Some.edge.now refl found.3.0 found.1)))

pub returns-in-None : goal.returns-in-None
returns-in-None c =
    let es = c.args.edges.now in
    sym (slice_get-map (λ (e : EventEdge). e.target) (map edge_of es) c.args.place
    ∙ ap (option_map (λ (e : EventEdge). e.target)) (slice_get-map edge_of es c.args.place ∙ ap (option_map edge_of) (slice_get_past es c.args.place c.in-None.ensures.lookup.3)))
