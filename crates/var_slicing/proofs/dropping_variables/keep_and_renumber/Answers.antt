-- Each list of the model is what is to be left of it.
use Rattle.std.proofs.Common.{◌≡◌, ◌∙◌, ℕ, List, ap, sym, map}
use Rattle.model_core.specs.declared.model.Watch.{Watch}
use Rattle.model_core.specs.declared.vertex.Vertex.{Vertex}
use Rattle.model_core.specs.EventGraph.{EventVertex}
use Rattle.model_core.specs.Rules.MarkedPlaces.{marked_of}
use Rattle.model_core.specs.Rules.Slice.{sliced_watched, sliced_vertex}
use Rattle.model_core.specs.Code.Views.{graph_of, variable_of, watched_of, vertex_of}
use Rattle.mark_laws.proofs.MarkedItems.{marked_of-map}
use Rattle.var_slicing.specs.Inner.StepsOfLeaving.{edges_left_in, own_parts_left}
use Rattle.var_slicing.proofs.LeftInSteps.{seen_parameters, in_two_steps}
use Rattle.var_slicing.proofs.dropping_variables.keep_and_renumber.Goals as goal

pub returns : goal.returns
returns c =
    let m = c.args.model.now in
    let g = graph_of m in
    let marks = c.args.staying.now in
    let vars : map variable_of c.keep_staying.new.items.items ≡ marked_of marks g.variables =
    ap (map variable_of) (c.keep_staying.ensures ∙ ap (marked_of marks) c.as_mut_vec.ensures.shows) ∙ sym (marked_of-map variable_of marks m.vars) in
    let watch : map watched_of c.renumber_watched_vars.new.watch.items ≡ map (sliced_watched marks) g.watch =
    c.renumber_watched_vars.ensures ∙ ap (λ (ws : List Watch). map (sliced_watched marks) (map watched_of ws)) c.as_mut_vec-2.ensures.shows in
    let edges : map vertex_of c.slice_all_edges.new.vertices.items ≡ map (edges_left_in (map (λ (v : EventVertex). v.parameters) g.vertices) marks) g.vertices =
    c.slice_all_edges.ensures
    ∙ ap (λ (vs : List Vertex). map (edges_left_in (map (λ (v : Vertex). v.params) vs) marks) (map vertex_of vs)) c.as_mut_vec-3.ensures.shows
    ∙ ap (λ (ps : List (List ℕ)). map (edges_left_in ps marks) g.vertices) (sym (seen_parameters m.vertices)) in
    let vertices : map vertex_of c.slice_all_stores.new.vertices.items ≡ map (sliced_vertex g marks) g.vertices =
    c.slice_all_stores.ensures
    ∙ ap (λ (vs : List Vertex). map (own_parts_left marks) (map vertex_of vs)) c.as_mut_vec-4.ensures.shows
    ∙ ap (map (own_parts_left marks)) edges
    ∙ in_two_steps g marks g.vertices in
    λ k. record g { variables = vars k; watch = watch k; vertices = vertices k }
