-- What the first vertex and the watched ones entail over the targets of edges is what can be reached.
use Rattle.std.proofs.Common.{◌≡◌, ◌∙◌, sym, ap, length, List, ℕ, ◌∷◌, map}
use Rattle.std.proofs.lemmas.List.{length-map}
use Rattle.std.proofs.lemmas.Result.{IfOk-weaker}
use Rattle.model_core.specs.declared.model.Watch.{Watch}
use Rattle.model_core.specs.EventGraph.{EventVertex}
use Rattle.model_core.specs.Rules.Entailed.{entailed_marks}
use Rattle.model_core.specs.Code.Views.{graph_of, watched_of}
use Rattle.mark_laws.specs.PlacePairs.{pairs_from}
use Rattle.edge_pruning.specs.Inner.Walk.{targets_of, targets_by_vertex, watched_vertices}
use Rattle.edge_pruning.proofs.ReachedMarks.{reached_marks-entailed}
use Rattle.edge_pruning.proofs.walk.reached.Goals as goal

pub returns : goal.returns
returns c =
    let g = graph_of c.args.model.now in
    let first : c.as_slice-2.result.now ≡ 0 ∷ watched_vertices g.watch =
    c.as_slice-2.ensures.value ∙ c.in_ok-first.ensures ∙ ap (λ (ws : List Watch). 0 ∷ watched_vertices (map watched_of ws)) c.as_slice.ensures in
    IfOk-weaker c.entailed.result _ _
    (λ marks found. found
    ∙ ap (λ (first : List ℕ). entailed_marks (length (targets_by_vertex g.vertices)) first (pairs_from 0 (targets_by_vertex g.vertices))) first
    ∙ ap (λ (n : ℕ). entailed_marks n (0 ∷ watched_vertices g.watch) (pairs_from 0 (targets_by_vertex g.vertices))) (length-map g.vertices (λ (v : EventVertex). targets_of v.edges))
    ∙ sym (reached_marks-entailed g))
    c.entailed.ensures
